use Rattle.std.proofs.Common.{sym, ap, ◌∙◌, None, arith}
use Rattle.rules.specs.Choice.{if}
use Rattle.obj_info.specs.Info.{some_nonzero}
use Rattle.walks.proofs.Entries.{begins, reaches, reaches_not}
use Rattle.walks.proofs.around.Around.covering.Goals as goal

pub returns-then-contains_key : goal.returns-then-contains_key
returns-then-contains_key c = λ es knows. c.nonzero.ensures ∙ ap some_nonzero (begins c.args.addr es _ knows _ c.contains_key.ensures.value c.if-contains_key.true c.contains_key.ensures.rising)

pub returns-in-Some : goal.returns-in-Some
returns-in-Some c = λ es knows. c.nonzero-in-Some.ensures ∙ ap some_nonzero (reaches c.args.addr es _ knows _ c.contains_key.ensures.value c.if-contains_key.false c.in-Some.function (sym c.in-Some.is ∙ c.lower.ensures) c.if-addr-function.true)

pub returns-in_default : goal.returns-in_default
unfolding if
returns-in_default c = λ es knows. ap some_nonzero (reaches_not c.args.addr es _ knows _ c.contains_key.ensures.value c.if-contains_key.false _ (sym c.in-Some.is ∙ c.lower.ensures) c.if-addr-function.false)

pub returns-in_default-2 : goal.returns-in_default-2
unfolding if
returns-in_default-2 c = λ es knows. ap some_nonzero (reaches_not c.args.addr es _ knows _ c.contains_key.ensures.value c.if-contains_key.false None (sym c.in_default.is ∙ c.lower.ensures) (omega arith))
