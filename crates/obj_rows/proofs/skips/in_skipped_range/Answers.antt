use Rattle.obj_rows.proofs.SkipRows.{in_skipped}
use borrow.Author.Rules.{rules}
use Rattle.obj_rows.proofs.skips.in_skipped_range.Goals as goal

-- `obj::skips::in_skipped_range` is `in_skipped_range` of `rules`. Assumes nothing.
pub returns : goal.returns
returns c = search (rules, in_skipped)
