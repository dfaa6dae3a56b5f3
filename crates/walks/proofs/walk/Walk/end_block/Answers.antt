use Rattle.std.proofs.Common.{sym}
use Rattle.std.proofs.lemmas.Result.{err_from_is_err_and}
use Rattle.rules.specs.Step.{end_block}
use Rattle.walks.proofs.Steps.{after_ok, after_err}
use Rattle.walks.proofs.walk.Walk.end_block.Goals as goal

pub returns-in_err-set_block : goal.returns-in_err-set_block
unfolding end_block
returns-in_err-set_block c =
    let p = err_from_is_err_and c.from_residual.result c.from_residual.ensures.1 in
    rw (p.1, p.2) (sym (after_err _ c.in_err-set_block.ensures))

pub returns : goal.returns
unfolding end_block
returns c = sym (after_ok _ c.in_ok-set_block.ensures)
