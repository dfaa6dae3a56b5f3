use Rattle.std.proofs.Common.{sym, ◌∙◌}
use Rattle.std.proofs.lemmas.Result.{err_from_is_err_and}
use Rattle.rules.specs.Choice.{if_true, if_false}
use Rattle.rules.specs.Step.{check_sequences}
use Rattle.walks.proofs.Steps.{after_ok, after_err}
use Rattle.walks.proofs.sequences.check_sequences.Goals as goal

pub returns-then-mark : goal.returns-then-mark
unfolding check_sequences
returns-then-mark c = λ w m. c.check_epilogue.ensures ∙ sym (if_true (sym m ∙ c.if-mark.true) _ _)

pub returns-in_err-check_prologue : goal.returns-in_err-check_prologue
unfolding check_sequences
returns-in_err-check_prologue c = λ w m.
    let p = err_from_is_err_and c.from_residual.result c.from_residual.ensures.1 in
    rw (p.1, p.2) (sym (if_false (sym m ∙ c.if-mark.false) _ _ ∙ after_err _ (c.in_err-check_prologue.ensures w)))

pub returns : goal.returns
unfolding check_sequences
returns c = λ w m. c.check_epilogue-2.ensures ∙ sym (if_false (sym m ∙ c.if-mark.false) _ _ ∙ after_ok _ (c.in_ok-check_prologue.ensures w))
