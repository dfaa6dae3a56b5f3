use Rattle.std.proofs.Common.{sym, ap, ◌∙◌, arith}
use Rattle.std.specs.Prelude.{not}
use Rattle.walks.proofs.Options.{and_first, and_second}
use Rattle.execution.specs.Stretch.{begins}
use Rattle.execution.proofs.Words.{few_words}
use Rattle.execution.proofs.plain.begins.Goals as goal

pub contains-requires : goal.contains-requires
contains-requires c = omega (arith, c.requires, few_words c.args.obj.now)

pub returns-then-not-both_go_on : goal.returns-then-not-both_go_on
unfolding begins
returns-then-not-both_go_on c = let no = sym c.both_go_on.ensures ∙ c.if-not-both_go_on.true in sym no ∙ and_first _ _ no

pub returns-then-not-contains : goal.returns-then-not-contains
unfolding begins
returns-then-not-contains c =
    c.goes_over.ensures ∙ and_second _ _ (ap not (sym c.contains.ensures ∙ c.if-not-contains.true)) ∙ and_second _ _ (sym c.both_go_on.ensures ∙ c.if-not-both_go_on.false)

pub returns-else-not-contains : goal.returns-else-not-contains
unfolding begins
returns-else-not-contains c =
    ap not c.contains.ensures ∙ and_first _ _ (ap not (sym c.contains.ensures ∙ c.if-not-contains.false)) ∙ and_second _ _ (sym c.both_go_on.ensures ∙ c.if-not-both_go_on.false)
