use Rattle.std.proofs.Common.{◌∙◌}
use Rattle.tables.specs.Rows.{key_of}
use Rattle.tables.proofs.Places.{last_below_is}
use Rattle.tables.proofs.maps.Map.lower.Goals as goal

pub returns : goal.returns
returns g c = rw (last_below_is key_of, ← c.rank.ensures.value, ← c.self.view_is, ← c.deref.ensures.0) (c.copied.ensures ∙ c.last.ensures.value)
