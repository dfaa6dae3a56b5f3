use Rattle.std.proofs.Common.{sym, ◌∙◌}
use Rattle.walks.proofs.Options.{found, not_found}
use Rattle.passes.proofs.Left.{none_left, open_left, words_left, at_end}
use Rattle.passes.proofs.trailing.left_out.Goals as goal

pub returns-then-is_nowhere : goal.returns-then-is_nowhere
returns-then-is_nowhere c = λ es. none_left _ _ (sym c.is_nowhere.ensures ∙ c.if-is_nowhere.true)

pub returns-in_err-last_end : goal.returns-in_err-last_end
returns-in_err-last_end c = λ es.
    c.from_residual.ensures ∙ open_left _ _ (sym c.is_nowhere.ensures ∙ c.if-is_nowhere.false) (not_found _ c.in_err-last_end.ensures)

pub returns-then-from-unwrap_or : goal.returns-then-from-unwrap_or
returns-then-from-unwrap_or c = λ es.
    let f = found _ _ c.in_ok-last_end.ensures in
    words_left _ _ (sym c.is_nowhere.ensures ∙ c.if-is_nowhere.false) _ _ f.0 (λ z. f.1 (f.0 ∙ z)) (c.skip_nops-from.ensures es) (rw c.unwrap_or.ensures at c.if-from-unwrap_or.true)

pub returns : goal.returns
returns c = λ es.
    let f = found _ _ c.in_ok-last_end.ensures in
    at_end _ _ (sym c.is_nowhere.ensures ∙ c.if-is_nowhere.false) _ _ f.0 (λ z. f.1 (f.0 ∙ z)) (c.skip_nops-from.ensures es) (rw c.unwrap_or.ensures at c.if-from-unwrap_or.false)
