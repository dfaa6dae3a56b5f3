use Rattle.std.proofs.Common.{sym, ap, ◌∙◌}
use Rattle.rules.specs.Plain.{plain}
use Rattle.walks.proofs.Options.{and_first, and_second}
use Rattle.execution.specs.Stretch.{quick}
use Rattle.execution.proofs.plain.is_quick.Goals as goal

pub returns-then-goes_on : goal.returns-then-goes_on
unfolding quick
returns-then-goes_on c = c.is_plain.ensures ∙ ap plain c.nth_word.ensures ∙ and_second _ _ (sym c.goes_on.ensures ∙ c.if-goes_on.true)

pub returns-else-goes_on : goal.returns-else-goes_on
unfolding quick
returns-else-goes_on c = c.goes_on.ensures ∙ and_first _ _ (sym c.goes_on.ensures ∙ c.if-goes_on.false)
