use Rattle.std.proofs.Common.{sym, ◌∙◌}
use Rattle.std.proofs.lemmas.Result.{err_from_is_err_and}
use Rattle.rules.specs.Analyze.{run_pass}
use Rattle.walks.specs.Around.{around_of}
use Rattle.walks.proofs.Steps.{after_ok, after_err}
use Rattle.passes.proofs.pass.run_pass.Goals as goal

pub returns-in_err-walk_from : goal.returns-in_err-walk_from
unfolding run_pass
returns-in_err-walk_from c = λ es knows.
    let p = err_from_is_err_and c.from_residual.result c.from_residual.ensures.1 in
    rw (p.1, p.2) (sym (after_err _ (c.in_err-walk_from.ensures es knows)))

pub returns : goal.returns
unfolding run_pass
returns c = λ es knows.
    c.checked_pass.ensures (around_of c.args.around.now es) ∙ sym (after_ok _ (c.in_ok-walk_from.ensures es knows))
