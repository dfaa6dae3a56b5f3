use Rattle.obj.proofs.Seen.{object_is}
use borrow.Author.Rules.{rules}
use Rattle.obj.proofs.symbols.is_object_symbol.Goals as goal

-- `obj::symbols::is_object_symbol` is `is_object_symbol` of `rules`. Assumes nothing.
pub returns : goal.returns
returns c = search (rules, object_is)
