use Rattle.std.proofs.Common.{sym, ap, ◌∙◌}
use Rattle.rules.specs.Choice.{if_true, if_false}
use Rattle.rules.specs.Step.{refers_to}
use Rattle.obj_info.specs.Info.{some_nonzero}
use Rattle.obj_info.proofs.Lookups.{none_found}
use Rattle.walks.proofs.walk.Walk.refers_to.Goals as goal

pub returns-then-is_known_function : goal.returns-then-is_known_function
unfolding refers_to
returns-then-is_known_function c = λ es knows.
    c.known_function.ensures es knows ∙ ap some_nonzero (sym (if_true (sym (c.is_known_function.ensures es knows) ∙ c.if-is_known_function.true) _ _))

pub returns-then-link : goal.returns-then-link
unfolding refers_to
returns-then-link c = λ es knows.
    c.nonzero.ensures ∙
    ap some_nonzero (c.linked_function.ensures es ∙ sym (if_false (sym (c.is_known_function.ensures es knows) ∙ c.if-is_known_function.false) _ _ ∙ if_true c.if-link.true _ _))

pub returns : goal.returns
unfolding refers_to
returns c = λ es knows.
    none_found _ (sym (if_false (sym (c.is_known_function.ensures es knows) ∙ c.if-is_known_function.false) _ _ ∙ if_false c.if-link.false _ _))
