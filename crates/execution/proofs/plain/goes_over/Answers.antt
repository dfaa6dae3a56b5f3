use Rattle.std.proofs.Common.{sym, ap, ◌∙◌, arith}
use Rattle.std.specs.Prelude.{not}
use Rattle.walks.proofs.Options.{and_first, and_second}
use Rattle.execution.specs.Stretch.{goes_over}
use Rattle.execution.proofs.Words.{few_words}
use Rattle.execution.proofs.plain.goes_over.Goals as goal

pub overflow_add-word : goal.overflow_add-word
overflow_add-word c = omega (arith, few_words c.args.obj.now)

pub contains-requires : goal.contains-requires
contains-requires c = omega (arith, c.requires, few_words c.args.obj.now)

pub returns-then-not-contains : goal.returns-then-not-contains
unfolding goes_over
returns-then-not-contains c = c.is_quick.ensures ∙ and_second _ _ (ap not (sym c.contains.ensures ∙ c.if-not-contains.true))

pub returns-else-not-contains : goal.returns-else-not-contains
unfolding goes_over
returns-else-not-contains c = ap not c.contains.ensures ∙ and_first _ _ (ap not (sym c.contains.ensures ∙ c.if-not-contains.false))
