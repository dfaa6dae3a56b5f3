use Rattle.std.proofs.Common.{sym, ap, ◌∙◌, Bool, ◌||◌}
use Rattle.rules.specs.Choice.{if_true, if_false}
use Rattle.slices.specs.View.{slices_of}
use Rattle.tail_calls.proofs.judged.own_word.Goals as goal

pub returns-then-is_recorded-trial : goal.returns-then-is_recorded-trial
unfolding slices_of
returns-then-is_recorded-trial c = λ e. sym (if_true (ap (λ (b : Bool). b || c.args.trial.now.has_r1_load) (sym c.is_recorded.ensures) ∙ c.if-is_recorded-trial.true) _ _)

pub returns : goal.returns
unfolding slices_of
returns c = λ e. sym (if_false (ap (λ (b : Bool). b || c.args.trial.now.has_r1_load) (sym c.is_recorded.ensures) ∙ c.if-is_recorded-trial.false) _ _)
