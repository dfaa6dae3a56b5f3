use Rattle.std.proofs.Common.{sym}
use Rattle.std.proofs.lemmas.Result.{err_from_is_err_and}
use Rattle.rules.specs.Map.{last_rounds}
use Rattle.walks.proofs.Steps.{after_err}
use Rattle.rounds.proofs.Looping.{last_steps, running_fails, running_on, running_less, running_ends, entries_held}
use Rattle.rounds.proofs.last_rounds.Goals as goal

pub returns-in_err-changed : goal.returns-in_err-changed
unfolding last_rounds
returns-in_err-changed c = λ cap es h t.
    let p = err_from_is_err_and c.from_residual.result c.from_residual.ensures.1 in
    rw (p.1, p.2) (after_err _ (sym (running_fails _ _ _ _ _ _ _ c.loop-changed.invariant (last_steps c.args.obj.now) c.loop-changed-test.true _ c.in_err-changed.ensures cap es h t)))

pub loop-changed-smaller : goal.loop-changed-smaller
loop-changed-smaller c =
    running_less _ _ _ _ _ _ _ c.loop-changed.invariant (last_steps c.args.obj.now) c.loop-changed-test.true _ _ _ c.in_ok-changed.ensures

pub loop-changed-preserved : goal.loop-changed-preserved
loop-changed-preserved c =
    running_on _ _ _ _ _ _ _ c.loop-changed.invariant (last_steps c.args.obj.now) c.loop-changed-test.true _ _ _ c.in_ok-changed.ensures

pub returns : goal.returns
unfolding last_rounds
returns c = λ cap es h t.
    entries_held cap _ _ _ _ (running_ends _ _ _ _ _ _ _ c.loop-changed.invariant c.loop-changed-test.false cap es h t)
