use Rattle.std.proofs.Common.{sym, ap, ◌∙◌}
use Rattle.std.proofs.lemmas.Result.{err_from_is_err_and}
use Rattle.rules.specs.Analyze.{walk_from}
use Rattle.rules.specs.Step.{push}
use Rattle.walks.proofs.Steps.{after_ok, after_err}
use Rattle.passes.proofs.pass.walk_from.Goals as goal

pub returns-in_err-push : goal.returns-in_err-push
unfolding walk_from
returns-in_err-push c = λ es knows.
    let p = err_from_is_err_and c.from_residual.result c.from_residual.ensures.1 in
    rw (p.1, p.2) (sym (after_err _ (c.in_err-push.ensures ∙ ap (push c.args.addr) c.start_pass.ensures)))

pub returns : goal.returns
unfolding walk_from
returns c = λ es knows.
    c.run_walk.ensures es knows ∙ sym (after_ok _ (c.in_ok-push.ensures ∙ ap (push c.args.addr) c.start_pass.ensures))
