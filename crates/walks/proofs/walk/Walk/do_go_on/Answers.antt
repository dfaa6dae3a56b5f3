use Rattle.std.proofs.Common.{sym, ◌∙◌}
use Rattle.std.proofs.lemmas.Result.{err_from_is_err_and}
use Rattle.rules.specs.Choice.{if_true, if_false}
use Rattle.rules.specs.Step.{do_go_on, walk_on}
use Rattle.walks.proofs.Steps.{after_ok, after_err}
use Rattle.walks.proofs.walk.Walk.do_go_on.Goals as goal

pub returns-in_err-end_block : goal.returns-in_err-end_block
unfolding do_go_on
returns-in_err-end_block c = λ e i.
    let p = err_from_is_err_and c.from_residual.result c.from_residual.ensures.1 in
    rw (p.1, p.2) (sym (if_true (sym (c.is_met.ensures e i) ∙ c.if-is_met.true) _ _ ∙ after_err _ c.in_err-end_block.ensures))

pub returns-then-is_met : goal.returns-then-is_met
unfolding do_go_on
returns-then-is_met c = λ e i.
    c.set_branches.ensures ∙ sym (if_true (sym (c.is_met.ensures e i) ∙ c.if-is_met.true) _ _ ∙ after_ok _ c.in_ok-end_block.ensures)

pub returns : goal.returns
unfolding do_go_on walk_on
returns c = λ e i. sym (if_false (sym (c.is_met.ensures e i) ∙ c.if-is_met.false) _ _)
