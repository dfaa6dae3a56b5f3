use Rattle.std.proofs.Common.{sym, ◌∙◌}
use Rattle.std.proofs.lemmas.Result.{err_from_is_err_and}
use Rattle.rules.specs.Choice.{if_true, if_false}
use Rattle.rules.specs.Settle.{settle}
use Rattle.walks.proofs.Steps.{after_ok, after_err}
use Rattle.settling.proofs.settle.Goals as goal

pub returns-in_err-include-in-Not : goal.returns-in_err-include-in-Not
unfolding settle
returns-in_err-include-in-Not c = λ es knows.
    let p = err_from_is_err_and c.from_residual.result c.from_residual.ensures.1 in
    rw (c.in-Not.is, p.1, p.2) (sym (after_err _ (c.in_err-include-in-Not.ensures es c.args.low c.args.last knows)))

pub returns-in_ok-include-in-Not : goal.returns-in_ok-include-in-Not
unfolding settle
returns-in_ok-include-in-Not c = λ es knows. rw c.in-Not.is (sym (after_ok _ (c.in_ok-include-in-Not.ensures es c.args.low c.args.last knows)))

pub returns-in_err-refer-in-Is : goal.returns-in_err-refer-in-Is
unfolding settle
returns-in_err-refer-in-Is c = λ es knows.
    let p = err_from_is_err_and c.from_residual-in_err-refer-in-Is.result c.from_residual-in_err-refer-in-Is.ensures.1 in
    rw (c.in-Is.is, p.1, p.2) (sym (after_err _ c.in_err-refer-in-Is.ensures))

pub returns-in_ok-refer-in-Is : goal.returns-in_ok-refer-in-Is
unfolding settle
returns-in_ok-refer-in-Is c = λ es knows. rw c.in-Is.is (sym (after_ok _ c.in_ok-refer-in-Is.ensures))

pub returns-in_err-include-in-Possible : goal.returns-in_err-include-in-Possible
unfolding settle
returns-in_err-include-in-Possible c = λ es knows.
    let p = err_from_is_err_and c.from_residual-in_err-include-in-Possible.result c.from_residual-in_err-include-in-Possible.ensures.1 in
    rw (c.in-Possible.is, p.1, p.2) (sym (if_true c.if-last.true _ _ ∙ after_err _ (c.in_err-include-in-Possible.ensures es c.args.low c.args.last knows)))

pub returns-in_ok-include-in-Possible : goal.returns-in_ok-include-in-Possible
unfolding settle
returns-in_ok-include-in-Possible c = λ es knows.
    rw c.in-Possible.is (sym (if_true c.if-last.true _ _ ∙ after_ok _ (c.in_ok-include-in-Possible.ensures es c.args.low c.args.last knows)))

pub returns-in-Possible-2 : goal.returns-in-Possible-2
unfolding settle
returns-in-Possible-2 c = λ es knows. rw c.in-Possible.is (sym (if_false c.if-last.false _ _))
