use Rattle.std.proofs.Common.{sym, ap, ◌∙◌}
use Rattle.std.proofs.lemmas.Result.{err_from_is_err_and}
use Rattle.rules.specs.Choice.{if_true, if_false, ok}
use Rattle.rules.specs.Step.{jump_inside, go_to}
use Rattle.walks.proofs.Steps.{after_ok, after_err, seen_as}
use Rattle.walks.proofs.walk.Walk.jump_inside.Goals.{else-branch-via-then-branch+else-not-is_seen, else-branch-via-else-branch}
use Rattle.walks.proofs.walk.Walk.jump_inside.Goals as goal

pub returns-in_err-add_block_start : goal.returns-in_err-add_block_start
unfolding jump_inside
returns-in_err-add_block_start c = λ e i.
    let p = err_from_is_err_and c.from_residual.result c.from_residual.ensures.1 in
    rw (p.1, p.2) (sym (after_err _ c.in_err-add_block_start.ensures.marked))

pub returns-then-not-is_seen : goal.returns-then-not-is_seen
unfolding jump_inside go_to
returns-then-not-is_seen c = λ e i.
    sym (after_ok _ c.in_ok-add_block_start.ensures.marked ∙ if_true (sym c.in_ok-add_block_start.ensures.new ∙ c.if-branch.true) _ _ ∙ ap ok (if_false (seen_as _ _ i c.is_seen.ensures c.if-not-is_seen.true) _ _))

pub returns-else-branch : goal.returns-else-branch
unfolding jump_inside go_to
returns-else-branch c = λ e i. elim c.else-branch.branch [
  | else-branch-via-then-branch+else-not-is_seen w ↦
      sym (after_ok _ c.in_ok-add_block_start.ensures.marked ∙ if_true (sym c.in_ok-add_block_start.ensures.new ∙ w.if-branch.true) _ _ ∙ ap ok (if_true (seen_as _ _ i w.is_seen.ensures w.if-not-is_seen.false) _ _))
  | else-branch-via-else-branch w ↦
      sym (after_ok _ c.in_ok-add_block_start.ensures.marked ∙ if_false (sym c.in_ok-add_block_start.ensures.new ∙ w.if-branch.false) _ _)
]
