use Rattle.std.proofs.Common.{rules}
use Rattle.tables.specs.Rows.{key_of}
use Rattle.tables.proofs.Places.{place_le}
use Rattle.tables.proofs.maps.Map.rank.Goals as goal

pub returns-clause-fits : goal.returns-clause-fits
returns-clause-fits g c = place_le key_of c.args.key _ _ (search rules)
