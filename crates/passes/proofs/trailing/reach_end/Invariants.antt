use Rattle.std.proofs.Common.{◌≡◌, List}
use Rattle.rules.specs.Known.{Entry}
use Rattle.rules.specs.Analyze.{reach_end}
use Rattle.walks.specs.Around.{Knows, around_of}
use Rattle.walks.specs.State.{walk_of}
use Rattle.passes.proofs.Loops.{passes}
use Rattle.passes.proofs.trailing.reach_end.Given as goal

abbrev pub invariant-loop-from : goal.invariant-loop-from
invariant-loop-from l =
    (es : List Entry) → Knows l.around.known.now es → reach_end (around_of l.around es) (walk_of l.walk) ≡ reach_end (around_of l.around es) (walk_of l.initial.walk)

abbrev pub decreases-loop-from : goal.decreases-loop-from
decreases-loop-from l = passes l.around (walk_of l.walk)
