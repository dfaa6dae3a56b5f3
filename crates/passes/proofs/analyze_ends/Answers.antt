use Rattle.std.proofs.Common.{sym, ◌∙◌}
use Rattle.rules.specs.Choice.{if_true, if_false}
use Rattle.rules.specs.Analyze.{analyze_ends}
use Rattle.passes.proofs.analyze_ends.Goals as goal

pub returns-then-is_nowhere : goal.returns-then-is_nowhere
unfolding analyze_ends
returns-then-is_nowhere c = λ e. sym (if_true (sym c.is_nowhere.ensures ∙ c.if-is_nowhere.true) _ _)

pub returns-then-any_open : goal.returns-then-any_open
unfolding analyze_ends
returns-then-any_open c = λ e.
    sym (if_false (sym c.is_nowhere.ensures ∙ c.if-is_nowhere.false) _ _ ∙ if_true (sym c.any_open.ensures ∙ c.if-any_open.true) _ _)

pub returns : goal.returns
unfolding analyze_ends
returns c = λ e.
    sym (if_false (sym c.is_nowhere.ensures ∙ c.if-is_nowhere.false) _ _ ∙ if_false (sym c.any_open.ensures ∙ c.if-any_open.false) _ _)
