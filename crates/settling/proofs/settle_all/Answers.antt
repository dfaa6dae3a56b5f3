use Rattle.std.proofs.lemmas.Result.{err_from_is_err_and}
use Rattle.rules.specs.Settle.{settling}
use Rattle.slices.specs.View.{slices_of}
use Rattle.walks.specs.Around.{around_of}
use Rattle.settling.specs.Settled.{address_from}
use Rattle.settling.proofs.Turns.{less_left, turned, failed_whole, failed, ended_whole, ended}
use Rattle.settling.proofs.settle_all.Goals as goal

pub loop-block-smaller : goal.loop-block-smaller
loop-block-smaller c =
    less_left c.args.around.now c.args.low c.args.last (settling (slices_of c.loop-block.walk.slices) (address_from c.loop-block.current)) c.next_possible_block.ensures.few c.in-Some.block c.in-Some.ensures.value _ c.in_ok-current.ensures

pub loop-block-preserved : goal.loop-block-preserved
loop-block-preserved c = λ es knows.
    turned c.args.around.now c.args.low c.args.last (settling (slices_of c.loop-block.walk.slices) (address_from c.loop-block.current)) c.next_possible_block.ensures.few c.in-Some.block c.in-Some.ensures.value _ c.in_ok-current.ensures es _ knows (c.loop-block.invariant es knows)

pub returns-in_err-current-clause-whole : goal.returns-in_err-current-clause-whole
returns-in_err-current-clause-whole c = λ es knows.
    let p = err_from_is_err_and c.from_residual.result c.from_residual.ensures.1 in
    rw (p.1, p.2)
    (failed_whole c.args.around.now c.args.low c.args.last (settling (slices_of c.loop-block.walk.slices) (address_from c.loop-block.current)) c.next_possible_block.ensures.few c.in-Some.block c.in-Some.ensures.value _ es _ (c.in_err-current.ensures es knows) (c.loop-block.invariant es knows))

pub returns-in_err-current-clause-lists : goal.returns-in_err-current-clause-lists
returns-in_err-current-clause-lists c = λ es knows.
    let p = err_from_is_err_and c.from_residual.result c.from_residual.ensures.1 in
    rw (p.1, p.2)
    (failed c.args.around.now c.args.low c.args.last (settling (slices_of c.loop-block.walk.slices) (address_from c.loop-block.current)) c.next_possible_block.ensures.few c.in-Some.block c.in-Some.ensures.value _ es _ (c.in_err-current.ensures es knows) (c.loop-block.invariant es knows))

pub returns-clause-whole : goal.returns-clause-whole
returns-clause-whole c = λ es knows.
    ended_whole (around_of c.args.around.now es) c.args.low c.args.last (settling (slices_of c.loop-block.walk.slices) (address_from c.loop-block.current)) _ c.in_default.ensures.value (c.loop-block.invariant es knows)

pub returns-clause-lists : goal.returns-clause-lists
returns-clause-lists c = λ es knows.
    ended (around_of c.args.around.now es) c.args.low c.args.last (settling (slices_of c.loop-block.walk.slices) (address_from c.loop-block.current)) _ c.in_default.ensures.value (c.loop-block.invariant es knows)
