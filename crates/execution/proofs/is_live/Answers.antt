use Rattle.std.proofs.Common.{refl, ap}
use Rattle.std.specs.Prelude.{not}
use Rattle.rules.specs.Walk.{live}
use Rattle.execution.proofs.is_live.Goals as goal

pub returns-in-Idle : goal.returns-in-Idle
unfolding live
returns-in-Idle c = rw c.in-Idle.is (ap not c.is_empty.ensures)

pub returns-in-At : goal.returns-in-At
unfolding live
returns-in-At c = rw c.in-At.is refl

pub returns-in-Nowhere : goal.returns-in-Nowhere
unfolding live
returns-in-Nowhere c = rw c.in-Nowhere.is refl
