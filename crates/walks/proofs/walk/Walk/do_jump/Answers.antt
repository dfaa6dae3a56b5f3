use Rattle.std.proofs.Common.{refl, sym, ◌∙◌}
use Rattle.std.proofs.lemmas.Result.{err_from_is_err_and}
use borrow.Author.Tests.{eq-eqb, ne_eqb}
use Rattle.rules.specs.Choice.{if_true, if_false}
use Rattle.rules.specs.Step.{do_jump, do_jump_elsewhere}
use Rattle.walks.specs.Around.{around_of}
use Rattle.walks.proofs.Steps.{after_ok, after_err}
use Rattle.walks.proofs.walk.Walk.do_jump.Goals as goal

pub returns-in_err-set_branches : goal.returns-in_err-set_branches
unfolding do_jump
returns-in_err-set_branches c = λ es knows word.
    let p = err_from_is_err_and c.from_residual.result c.from_residual.ensures.1 in
    rw (p.1, p.2) (sym (after_err _ c.in_err-set_branches.ensures))

pub returns-then-target-addr : goal.returns-then-target-addr
unfolding do_jump
returns-then-target-addr c = λ es knows word. sym (after_ok _ c.in_ok-set_branches.ensures ∙ if_true (eq-eqb _ _ c.if-target-addr.true) _ _)

pub returns-then-jumps_inside : goal.returns-then-jumps_inside
unfolding do_jump do_jump_elsewhere
returns-then-jumps_inside c = λ es knows word.
    c.jump_inside.ensures (around_of c.args.around.now es) refl ∙
    sym (after_ok _ c.in_ok-set_branches.ensures ∙ if_false (ne_eqb _ _ c.if-target-addr.false) _ _ ∙ if_true (sym (c.jumps_inside.ensures es) ∙ c.if-jumps_inside.true) _ _)

pub returns-else-jumps_inside : goal.returns-else-jumps_inside
unfolding do_jump do_jump_elsewhere
returns-else-jumps_inside c = λ es knows word.
    c.jump_outside.ensures es knows word ∙
    sym (after_ok _ c.in_ok-set_branches.ensures ∙ if_false (ne_eqb _ _ c.if-target-addr.false) _ _ ∙ if_false (sym (c.jumps_inside.ensures es) ∙ c.if-jumps_inside.false) _ _)
