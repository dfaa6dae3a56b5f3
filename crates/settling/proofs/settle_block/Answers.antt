use Rattle.std.proofs.Common.{sym, ◌∙◌}
use Rattle.std.proofs.lemmas.Result.{err_from_is_err_and}
use Rattle.walks.proofs.Steps.{after_ok, after_err}
use Rattle.settling.specs.Settled.{settled_block}
use Rattle.settling.proofs.settle_block.Goals as goal

pub returns-in_err-answer : goal.returns-in_err-answer
unfolding settled_block
returns-in_err-answer c = λ es knows.
    let p = err_from_is_err_and c.from_residual.result c.from_residual.ensures.1 in
    rw (p.1, p.2) (sym (after_err _ (c.in_err-answer.ensures es knows)))

pub returns : goal.returns
unfolding settled_block
returns c = λ es knows. c.settle.ensures es knows ∙ sym (after_ok _ (c.in_ok-answer.ensures es knows))
