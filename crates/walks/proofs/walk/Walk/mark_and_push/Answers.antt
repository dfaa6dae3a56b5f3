use Rattle.std.proofs.Common.{sym, ◌∙◌}
use Rattle.std.proofs.lemmas.Result.{err_from_is_err_and}
use Rattle.rules.specs.Choice.{if_true, if_false}
use Rattle.rules.specs.Step.{mark_and_push}
use Rattle.walks.proofs.Steps.{after_ok, after_err}
use Rattle.walks.proofs.walk.Walk.mark_and_push.Goals as goal

pub returns-in_err-add_block_start : goal.returns-in_err-add_block_start
unfolding mark_and_push
returns-in_err-add_block_start c =
    let p = err_from_is_err_and c.from_residual.result c.from_residual.ensures.1 in
    rw (p.1, p.2) (sym (after_err _ c.in_err-add_block_start.ensures.marked))

pub returns-then-branch : goal.returns-then-branch
unfolding mark_and_push
returns-then-branch c =
    c.push.ensures ∙ sym (after_ok _ c.in_ok-add_block_start.ensures.marked ∙ if_true (sym c.in_ok-add_block_start.ensures.new ∙ c.if-branch.true) _ _)

pub returns : goal.returns
unfolding mark_and_push
returns c =
    sym (after_ok _ c.in_ok-add_block_start.ensures.marked ∙ if_false (sym c.in_ok-add_block_start.ensures.new ∙ c.if-branch.false) _ _)
