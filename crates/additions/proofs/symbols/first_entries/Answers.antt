use Rattle.std.proofs.lemmas.Result.{err_from_is_err_and}
use Rattle.additions.proofs.FirstEntries.{first_fails, first_told}
use Rattle.additions.proofs.symbols.first_entries.Goals as goal

pub returns-in_err-add_symbols : goal.returns-in_err-add_symbols
returns-in_err-add_symbols c =
    let p = err_from_is_err_and c.from_residual.result c.from_residual.ensures.1 in
    rw (p.1, p.2) (λ cap lists h. first_fails _ cap _ c.functions.ensures.all _ (c.in_err-add_symbols.ensures cap lists _ h))

pub returns : goal.returns
returns c = λ cap lists h. first_told _ cap _ c.functions.ensures.all _ _ _ (c.in_ok-add_symbols.ensures cap lists _ h) _ (rw c.code.ensures.is.base at c.code_key.ensures.is) _ (c.add_entry.ensures cap lists)
