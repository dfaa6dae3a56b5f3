use Rattle.std.proofs.Common.{sym}
use Rattle.std.proofs.lemmas.Result.{err_from_is_err_and}
use Rattle.rules.specs.Finalize.{finalize_end}
use Rattle.slices.specs.View.{slices_of}
use Rattle.walks.proofs.Steps.{after_ok, after_err}
use Rattle.finalizing.proofs.finalize_end.Goals as goal

pub returns-in_err-add_last : goal.returns-in_err-add_last
unfolding finalize_end
returns-in_err-add_last c = λ es knows.
    let p = err_from_is_err_and c.from_residual.result c.from_residual.ensures.1 in
    rw (p.1, p.2) (sym (after_err _ (c.in_err-add_last.ensures es knows)))

pub returns : goal.returns
unfolding finalize_end slices_of
returns c = λ es knows. sym (after_ok _ (c.in_ok-add_last.ensures es knows))
