use Rattle.std.proofs.Common.{sym, ◌∙◌}
use Rattle.rules.specs.Step.{is_met}
use Rattle.walks.proofs.Options.{or_first, or_second}
use Rattle.walks.proofs.walk.Walk.is_met.Goals as goal

pub returns-then-is_seen : goal.returns-then-is_seen
unfolding is_met
returns-then-is_seen c = λ e i. rw i (c.is_seen.ensures ∙ or_first _ _ (sym c.is_seen.ensures ∙ c.if-is_seen.true))

pub returns-else-is_seen : goal.returns-else-is_seen
unfolding is_met
returns-else-is_seen c = λ e i. rw i (c.has_start.ensures ∙ or_second _ _ (sym c.is_seen.ensures ∙ c.if-is_seen.false))
