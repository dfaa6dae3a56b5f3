use Rattle.std.proofs.Common.{◌≡◌, List}
use Rattle.rules.specs.Known.{Entry}
use Rattle.rules.specs.Analyze.{connect}
use Rattle.walks.specs.Around.{Knows, around_of}
use Rattle.walks.specs.State.{walk_of}
use Rattle.passes.proofs.Loops.{passes}
use Rattle.passes.proofs.apart.connect.Given as goal

abbrev pub invariant-loop-block : goal.invariant-loop-block
invariant-loop-block l =
    (es : List Entry) → Knows l.around.known.now es → connect (around_of l.around es) (walk_of l.walk) ≡ connect (around_of l.around es) (walk_of l.initial.walk)

abbrev pub decreases-loop-block : goal.decreases-loop-block
decreases-loop-block l = passes l.around (walk_of l.walk)
