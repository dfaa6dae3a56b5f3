use borrow.Author.Rules.{rules}
use Rattle.obj.proofs.Seen.{function_is}
use Rattle.obj.proofs.symbols.is_function_symbol.Goals as goal

-- `obj::symbols::is_function_symbol` is `is_function_symbol` of `rules`. Assumes nothing.
pub returns : goal.returns
returns c = search (rules, function_is)
