use Rattle.std.proofs.lemmas.Result.{err_from_is_err_and}
use Rattle.walks.proofs.Branching.{reference_ok, reference_err, onward_ok, onward_err}
use Rattle.walks.proofs.walk.Walk.do_branch.Goals as goal

pub returns-in_err-add_function_reference-in-Some : goal.returns-in_err-add_function_reference-in-Some
returns-in_err-add_function_reference-in-Some c = λ es out knows.
    let p = err_from_is_err_and c.from_residual.result c.from_residual.ensures.1 in
    rw (p.1, p.2) (reference_err _ _ _ _ out _ (c.in-Some.ensures es knows) _ c.in_err-add_function_reference-in-Some.ensures)

pub returns-in_err-mark_and_push-in-None : goal.returns-in_err-mark_and_push-in-None
returns-in_err-mark_and_push-in-None c = λ es out knows.
    let p = err_from_is_err_and c.from_residual-in_err-mark_and_push-in-None.result c.from_residual-in_err-mark_and_push-in-None.ensures.1 in
    rw (p.1, p.2) (onward_err _ _ _ _ out (c.in-None.ensures es knows) _ c.in_err-mark_and_push-in-None.ensures)

pub returns-in_ok-add_function_reference-in-Some : goal.returns-in_ok-add_function_reference-in-Some
returns-in_ok-add_function_reference-in-Some c = λ es out knows.
    reference_ok _ _ _ _ out _ (c.in-Some.ensures es knows) _ c.in_ok-add_function_reference-in-Some.ensures

pub returns-in_ok-mark_and_push-in-None : goal.returns-in_ok-mark_and_push-in-None
returns-in_ok-mark_and_push-in-None c = λ es out knows.
    onward_ok _ _ _ _ out (c.in-None.ensures es knows) _ c.in_ok-mark_and_push-in-None.ensures
