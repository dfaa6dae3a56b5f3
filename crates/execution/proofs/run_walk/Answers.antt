use Rattle.std.proofs.Common.{sym, ◌∙◌, arith}
use Rattle.std.proofs.lemmas.Result.{err_from_is_err_and}
use Rattle.execution.proofs.Turns.{begun, ended, stopped, turned, less, still, still_live, no_more}
use Rattle.execution.proofs.run_walk.Goals as goal

pub loop-walk-init : goal.loop-walk-init
loop-walk-init c = begun _ _

pub loop-walk-smaller : goal.loop-walk-smaller
loop-walk-smaller c =
    let live = sym c.is_live.ensures ∙ c.loop-walk-test.true in
    let goes = still _ _ _ c.loop-walk.invariant live _ c.skip.ensures in
    omega (arith, no_more _ _ _ c.loop-walk.invariant live _ c.skip.ensures, less _ _ _ goes (still_live _ _ _ c.loop-walk.invariant live _ c.skip.ensures) _ c.in_ok-step.ensures)

pub loop-walk-preserved : goal.loop-walk-preserved
loop-walk-preserved c =
    let live = sym c.is_live.ensures ∙ c.loop-walk-test.true in
    turned _ _ _ (still _ _ _ c.loop-walk.invariant live _ c.skip.ensures) (still_live _ _ _ c.loop-walk.invariant live _ c.skip.ensures) _ c.in_ok-step.ensures

pub returns-in_err-step : goal.returns-in_err-step
returns-in_err-step c = λ es knows.
    let p = err_from_is_err_and c.from_residual.result c.from_residual.ensures.1 in
    let live = sym c.is_live.ensures ∙ c.loop-walk-test.true in
    rw (p.1, p.2)
    (stopped _ _ _ (still _ _ _ c.loop-walk.invariant live _ c.skip.ensures) (still_live _ _ _ c.loop-walk.invariant live _ c.skip.ensures) _ es knows (c.in_err-step.ensures es knows))

pub returns : goal.returns
returns c = ended _ _ _ c.loop-walk.invariant (sym c.is_live.ensures ∙ c.loop-walk-test.false)
