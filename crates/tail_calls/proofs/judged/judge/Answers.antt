use Rattle.std.proofs.Common.{sym, ◌∙◌}
use Rattle.rules.specs.Choice.{if_true, if_false}
use Rattle.rules.specs.TailCall.{judge}
use Rattle.tail_calls.proofs.judged.judge.Goals as goal

pub returns-in-Ok-true : goal.returns-in-Ok-true
unfolding judge
returns-in-Ok-true c = λ e. rw c.in-Ok-true.is (c.judge_trial.ensures e ∙ sym (if_true c.in-Ok-true.field-0-test _ _))

pub returns-in-Ok-false : goal.returns-in-Ok-false
unfolding judge
returns-in-Ok-false c = λ e. rw c.in-Ok-false.is (sym (if_false c.in-Ok-false.field-0-test _ _))

pub returns-in-Err : goal.returns-in-Err
unfolding judge
returns-in-Err c = λ e. rw c.in-Err.is (sym (if_true (sym c.ends_run.ensures ∙ c.if-ends_run.true) _ _))

pub returns-in-Err-2 : goal.returns-in-Err-2
unfolding judge
returns-in-Err-2 c = λ e. rw c.in-Err.is (sym (if_false (sym c.ends_run.ensures ∙ c.if-ends_run.false) _ _))
