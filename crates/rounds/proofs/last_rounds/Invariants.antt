use Rattle.rules.specs.Map.{last_step}
use Rattle.obj_info.specs.Info.{image_of}
use Rattle.rounds.proofs.Looping.{Running, left}
use Rattle.rounds.proofs.last_rounds.Given as goal

abbrev pub invariant-loop-changed : goal.invariant-loop-changed
invariant-loop-changed l = Running (image_of l.obj) (last_step (image_of l.obj)) l.fn.state l.fn.lists l.changed l.state l.lists

abbrev pub decreases-loop-changed : goal.decreases-loop-changed
decreases-loop-changed l = left l.state l.changed
