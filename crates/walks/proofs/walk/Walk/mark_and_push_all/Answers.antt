use Rattle.std.proofs.Common.{sym, ◌∙◌}
use Rattle.std.proofs.lemmas.Result.{err_from_is_err_and}
use Rattle.walks.proofs.Steps.{marked_next, marked_not}
use Rattle.walks.proofs.walk.Walk.mark_and_push_all.Goals as goal

pub returns-in_err-mark_and_push : goal.returns-in_err-mark_and_push
returns-in_err-mark_and_push c =
    let p = err_from_is_err_and c.from_residual.result c.from_residual.ensures.1 in
    rw (p.1, p.2) (sym (c.loop-addr.invariant ∙ marked_not c.args.addrs.now c.loop-addr.addr-index c.loop-addr-test.true _ _ c.in_err-mark_and_push.ensures))

pub loop-addr-preserved : goal.loop-addr-preserved
loop-addr-preserved c = c.loop-addr.invariant ∙ marked_next c.args.addrs.now c.loop-addr.addr-index c.loop-addr-test.true _ _ c.in_ok-mark_and_push.ensures
