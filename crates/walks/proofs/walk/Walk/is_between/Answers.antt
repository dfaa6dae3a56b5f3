use Rattle.std.proofs.Common.{sym, ap, ◌∙◌}
use Rattle.std.specs.Prelude.{not}
use Rattle.slices.specs.View.{slices_of}
use Rattle.walks.proofs.Options.{and_first, and_second, not_not}
use Rattle.walks.proofs.walk.Walk.is_between.Goals as goal

pub returns-then-is_recorded : goal.returns-then-is_recorded
unfolding slices_of
returns-then-is_recorded c = ap not c.is_recorded-then-is_recorded.ensures ∙ not_not _ ∙ and_second _ _ (sym c.is_recorded.ensures ∙ c.if-is_recorded.true)

pub returns-else-is_recorded : goal.returns-else-is_recorded
unfolding slices_of
returns-else-is_recorded c = c.is_recorded.ensures ∙ and_first _ _ (sym c.is_recorded.ensures ∙ c.if-is_recorded.false)
