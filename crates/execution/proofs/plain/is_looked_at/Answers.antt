use Rattle.std.proofs.Common.{refl}
use Rattle.execution.specs.Spot.{is_looked_at}
use Rattle.execution.proofs.plain.is_looked_at.Goals as goal

pub returns : goal.returns
unfolding is_looked_at
returns c = refl
