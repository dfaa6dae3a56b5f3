use Rattle.std.proofs.Common.{refl}
use Rattle.rules.specs.Choice.{if}
use Rattle.walks.proofs.functions.recorded.Goals as goal

pub returns-in-Some : goal.returns-in-Some
returns-in-Some c = rw c.in-Some.is c.nonzero.ensures

pub returns-in-None : goal.returns-in-None
unfolding if
returns-in-None c = rw c.in-None.is refl
