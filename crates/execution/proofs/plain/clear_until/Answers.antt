use Rattle.std.proofs.Common.{arith, []}
use Rattle.slices.specs.View.{slices_of}
use Rattle.walks.specs.Around.{around_of}
use Rattle.execution.specs.Stretch.{clear_until}
use Rattle.execution.proofs.Clear.{next_start, next_entry, start_high}
use Rattle.execution.proofs.plain.clear_until.Goals as goal

pub overflow_sub-start : goal.overflow_sub-start
unfolding slices_of
overflow_sub-start c =
    omega (arith, next_start _ _ _ c.args.slices.now.blocks c.next_key-start.ensures, start_high (around_of c.args.around.now []) (slices_of c.args.slices.now) c.args.addr c.args.end)

pub returns : goal.returns
unfolding clear_until slices_of
returns c = λ es knows.
    let start = next_start _ _ _ c.args.slices.now.blocks c.next_key-start.ensures in
    let function = next_entry _ _ _ c.args.around.now.known.now es knows c.next_key-function.ensures in
    rw (← start, ← function, ← c.next_address-reference.ensures, ← c.next_address-possible.ensures) (cc)
