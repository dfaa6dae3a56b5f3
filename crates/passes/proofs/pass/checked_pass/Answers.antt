use Rattle.std.proofs.Common.{sym, ◌∙◌}
use Rattle.rules.specs.Choice.{if_true, if_false}
use Rattle.rules.specs.Analyze.{checked_pass}
use Rattle.rules.proofs.Tests.{or_left, or_right}
use Rattle.walks.proofs.Options.{or_second}
use Rattle.passes.proofs.pass.checked_pass.Goals as goal
use Rattle.passes.proofs.pass.checked_pass.Goals.{then-is_nowhere-via-then-is_nowhere, then-is_nowhere-via-else-is_nowhere+then-walk}

pub returns-then-is_nowhere : goal.returns-then-is_nowhere
unfolding checked_pass
returns-then-is_nowhere c = λ e.
    elim c.then-is_nowhere.branch [
      | then-is_nowhere-via-then-is_nowhere w ↦ sym (if_true (or_left _ _ (sym c.is_nowhere.ensures ∙ w.if-is_nowhere.true)) _ _)
      | then-is_nowhere-via-else-is_nowhere+then-walk w ↦ sym (if_true (or_right _ _ w.if-walk.true) _ _)
    ]

pub returns : goal.returns
unfolding checked_pass
returns c = λ e. sym (if_false (sym (or_second _ _ (sym c.is_nowhere.ensures ∙ c.if-is_nowhere.false)) ∙ c.if-walk.false) _ _)
