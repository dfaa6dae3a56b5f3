-- What is left to be added, address by address.
use Rattle.std.proofs.Common.{sym, ◌∙◌}
use Rattle.std.proofs.lemmas.Result.{err_from_is_err_and}
use Rattle.slices.proofs.Apart.{added_next, added_not, added_all}
use Rattle.slices.proofs.FunctionSlices.add_all_possible_blocks.Goals as goal

pub returns-in_err-add_possible_block : goal.returns-in_err-add_possible_block
returns-in_err-add_possible_block c =
    let p = err_from_is_err_and c.from_residual.result c.from_residual.ensures.1 in
    rw (p.1, p.2)
    (added_not c.args.addrs.now c.loop-addr.addr-index c.loop-addr-test.true _ _ c.in_err-add_possible_block.ensures ∙ sym c.loop-addr.invariant)

pub loop-addr-preserved : goal.loop-addr-preserved
loop-addr-preserved c =
    c.loop-addr.invariant ∙ added_next c.args.addrs.now c.loop-addr.addr-index c.loop-addr-test.true _ _ c.in_ok-add_possible_block.ensures

pub returns : goal.returns
returns c = added_all c.args.addrs.now c.loop-addr.addr-index _ c.loop-addr-test.false ∙ sym c.loop-addr.invariant
