use Rattle.std.proofs.Common.{sym, ◌∙◌, arith}
use Rattle.walks.proofs.Options.{and_first, and_second}
use Rattle.execution.specs.Stretch.{both_go_on}
use Rattle.execution.proofs.Words.{few_words}
use Rattle.execution.proofs.plain.both_go_on.Goals as goal

pub overflow_add-word : goal.overflow_add-word
overflow_add-word c = omega (arith, few_words c.args.obj.now)

pub returns-then-goes_on : goal.returns-then-goes_on
unfolding both_go_on
returns-then-goes_on c = c.goes_on-then-goes_on.ensures ∙ and_second _ _ (sym c.goes_on.ensures ∙ c.if-goes_on.true)

pub returns-else-goes_on : goal.returns-else-goes_on
unfolding both_go_on
returns-else-goes_on c = c.goes_on.ensures ∙ and_first _ _ (sym c.goes_on.ensures ∙ c.if-goes_on.false)
