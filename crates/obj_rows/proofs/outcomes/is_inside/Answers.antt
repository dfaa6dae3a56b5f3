use Rattle.obj_rows.proofs.Seen.{inside_is}
use borrow.Author.Rules.{rules}
use Rattle.obj_rows.proofs.outcomes.is_inside.Goals as goal

-- `obj::outcomes::is_inside` is `is_inside` of `rules`. Assumes nothing.
pub returns : goal.returns
returns c = search (rules, inside_is)
