use Rattle.std.proofs.Common.{sym, ◌∙◌}
use Rattle.std.proofs.lemmas.Result.{err_from_is_err_and}
use Rattle.rules.specs.Choice.{if_true, if_false}
use Rattle.rules.specs.Step.{do_unknown}
use Rattle.walks.proofs.Steps.{after_ok, after_err}
use Rattle.walks.proofs.walk.Walk.do_unknown.Goals as goal

pub returns-then-not-is_between : goal.returns-then-not-is_between
unfolding do_unknown
returns-then-not-is_between c = λ e. sym (if_false (sym c.is_between.ensures ∙ c.if-not-is_between.true) _ _)

pub returns-in_err-set_branches : goal.returns-in_err-set_branches
unfolding do_unknown
returns-in_err-set_branches c = λ e.
    let p = err_from_is_err_and c.from_residual.result c.from_residual.ensures.1 in
    rw (p.1, p.2) (sym (if_true (sym c.is_between.ensures ∙ c.if-not-is_between.false) _ _ ∙ after_err _ c.in_err-set_branches.ensures))

pub returns : goal.returns
unfolding do_unknown
returns c = λ e.
    c.mark_and_push.ensures ∙ sym (if_true (sym c.is_between.ensures ∙ c.if-not-is_between.false) _ _ ∙ after_ok _ c.in_ok-set_branches.ensures)
