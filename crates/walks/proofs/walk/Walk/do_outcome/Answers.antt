use Rattle.std.proofs.Common.{refl, sym, ◌∙◌}
use Rattle.std.proofs.lemmas.Result.{err_from_is_err_and}
use Rattle.rules.specs.Step.{do_outcome}
use Rattle.walks.specs.Around.{around_of}
use Rattle.walks.proofs.Outcomes.{ended}
use Rattle.walks.proofs.Steps.{after_ok, after_err}
use Rattle.walks.proofs.walk.Walk.do_outcome.Goals as goal

pub returns-in-GoOn : goal.returns-in-GoOn
unfolding do_outcome
returns-in-GoOn c = λ es knows w. rw c.in-GoOn.is (c.do_go_on.ensures (around_of c.args.around.now es) refl)

pub returns-in-Illegal : goal.returns-in-Illegal
unfolding do_outcome
returns-in-Illegal c = λ es knows w. rw c.in-Illegal.is (c.do_illegal.ensures (around_of c.args.around.now es) w)

pub returns-in_err-end_block-in_default : goal.returns-in_err-end_block-in_default
returns-in_err-end_block-in_default c = λ es knows w.
    let p = err_from_is_err_and c.from_residual.result c.from_residual.ensures.1 in
    rw (p.1, p.2) (sym (ended _ _ _ _ _ c.in_default.not-GoOn c.in_default.not-Illegal ∙ after_err _ c.in_err-end_block-in_default.ensures))

pub returns-in_ok-end_block-in_default : goal.returns-in_ok-end_block-in_default
returns-in_ok-end_block-in_default c = λ es knows w.
    c.after_block.ensures es knows w ∙ sym (ended _ _ _ _ _ c.in_default.not-GoOn c.in_default.not-Illegal ∙ after_ok _ c.in_ok-end_block-in_default.ensures)
