use Rattle.std.proofs.Common.{sym, ◌∙◌}
use Rattle.std.proofs.lemmas.Result.{err_from_is_err_and}
use Rattle.rules.specs.Choice.{if_true, if_false}
use Rattle.rules.specs.Analyze.{analyze}
use Rattle.walks.proofs.Steps.{after_ok, after_err}
use Rattle.passes.proofs.analyze.Goals as goal

pub returns-in_err-add_block_start : goal.returns-in_err-add_block_start
unfolding analyze
returns-in_err-add_block_start c = λ es knows.
    let p = err_from_is_err_and c.from_residual.result c.from_residual.ensures.1 in
    rw (p.1, p.2) (sym (after_err _ c.in_err-add_block_start.ensures.marked))

pub returns-then-branch : goal.returns-then-branch
unfolding analyze
returns-then-branch c = λ es knows.
    c.analyze_walk.ensures es knows ∙
    sym (after_ok _ c.in_ok-add_block_start.ensures.marked ∙ if_true (sym c.in_ok-add_block_start.ensures.new ∙ c.if-branch.true) _ _)

pub returns : goal.returns
unfolding analyze
returns c = λ es knows.
    sym (after_ok _ c.in_ok-add_block_start.ensures.marked ∙ if_false (sym c.in_ok-add_block_start.ensures.new ∙ c.if-branch.false) _ _)
