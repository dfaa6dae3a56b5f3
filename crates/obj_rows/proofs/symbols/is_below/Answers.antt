use Rattle.obj_rows.proofs.Seen.{below_is}
use borrow.Author.Rules.{rules}
use Rattle.obj_rows.proofs.symbols.is_below.Goals as goal

-- `obj::symbols::is_below` is `is_below` of `rules`. Assumes nothing.
pub returns : goal.returns
returns c = search (rules, below_is)
