use Rattle.std.proofs.Common.{sym, ap, ◌∙◌}
use Rattle.rules.specs.Choice.{if_true, if_false}
use Rattle.rules.specs.Step.{known_function}
use Rattle.obj_info.specs.Info.{some_nonzero}
use Rattle.walks.proofs.walk.Walk.known_function.Goals as goal

pub returns-then-is_function_reference : goal.returns-then-is_function_reference
unfolding known_function
returns-then-is_function_reference c = λ es knows.
    c.nonzero.ensures ∙ ap some_nonzero (sym (if_true (sym c.is_function_reference.ensures ∙ c.if-is_function_reference.true) _ _))

pub returns : goal.returns
unfolding known_function
returns c = λ es knows.
    c.covering.ensures es knows ∙ ap some_nonzero (sym (if_false (sym c.is_function_reference.ensures ∙ c.if-is_function_reference.false) _ _))
