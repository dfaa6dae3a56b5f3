use Rattle.std.proofs.Common.{sym, ap, ◌∙◌}
use Rattle.std.proofs.lemmas.Result.{err_from_is_err_and}
use Rattle.rules.specs.Analyze.{analyze}
use Rattle.rules.specs.Settle.{include}
use Rattle.walks.specs.Around.{around_of}
use Rattle.walks.proofs.Steps.{after_ok, after_err}
use Rattle.settling.proofs.include.Goals as goal

pub returns-in_err-analyze : goal.returns-in_err-analyze
unfolding include
returns-in_err-analyze c = λ es low last knows.
    let p = err_from_is_err_and c.from_residual.result c.from_residual.ensures.1 in
    rw (p.1, p.2) (sym (after_err _ (c.in_err-analyze.ensures es knows ∙ ap (analyze (around_of c.args.around.now es) c.args.block) c.discard_possible_block.ensures)))

pub returns : goal.returns
unfolding include
returns c = λ es low last knows.
    sym (after_ok _ (c.in_ok-analyze.ensures es knows ∙ ap (analyze (around_of c.args.around.now es) c.args.block) c.discard_possible_block.ensures))
