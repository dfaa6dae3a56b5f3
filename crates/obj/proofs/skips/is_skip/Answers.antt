use Rattle.obj.proofs.Seen.{skip_is}
use borrow.Author.Rules.{rules}
use Rattle.obj.proofs.skips.is_skip.Goals as goal

-- `obj::skips::is_skip` is `is_skip` of `rules`. Assumes nothing.
pub returns : goal.returns
returns c = search (rules, skip_is)
