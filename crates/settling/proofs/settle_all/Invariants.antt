use Rattle.std.proofs.Common.{◌≡◌, List}
use Rattle.rules.specs.Known.{Entry}
use Rattle.rules.specs.Settle.{settling, settle_all}
use Rattle.slices.specs.View.{slices_of}
use Rattle.walks.specs.Around.{Knows, around_of}
use Rattle.settling.specs.Settled.{address_from}
use Rattle.settling.proofs.Turns.{left}
use Rattle.settling.proofs.settle_all.Given as goal

abbrev pub invariant-loop-block : goal.invariant-loop-block
invariant-loop-block l =
    (es : List Entry) → Knows l.around.known.now es →
    settle_all (around_of l.around es) l.low l.last (settling (slices_of l.walk.slices) (address_from l.current))
    ≡ settle_all (around_of l.around es) l.low l.last (settling (slices_of l.fn.walk.slices) l.low)

abbrev pub decreases-loop-block : goal.decreases-loop-block
decreases-loop-block l = left l.around l.low l.last (settling (slices_of l.walk.slices) (address_from l.current))
