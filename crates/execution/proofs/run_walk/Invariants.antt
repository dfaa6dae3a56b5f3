use Rattle.walks.specs.Around.{around_of}
use Rattle.walks.specs.State.{walk_of}
use Rattle.rules.specs.Walk.{left}
use Rattle.execution.proofs.Turns.{Goes}
use Rattle.execution.proofs.Words.{entries_in}
use Rattle.execution.proofs.run_walk.Given as goal

abbrev pub invariant-loop-walk : goal.invariant-loop-walk
invariant-loop-walk l = Goes l.around (walk_of l.initial.walk) (walk_of l.walk)

abbrev pub decreases-loop-walk : goal.decreases-loop-walk
decreases-loop-walk l = left (around_of l.around (entries_in l.around.known.now)) (walk_of l.walk)
