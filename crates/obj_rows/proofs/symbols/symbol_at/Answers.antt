use Rattle.obj_rows.proofs.SymbolRows.{symbol_here}
use borrow.Author.Rules.{rules}
use Rattle.obj_rows.proofs.symbols.symbol_at.Goals as goal

-- `obj::symbols::symbol_at` is the next of the rows. Assumes nothing.
pub returns : goal.returns
returns c = search (rules, symbol_here)
