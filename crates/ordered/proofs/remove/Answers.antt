use borrow.Author.Rules.{rules}
use Rattle.ordered.proofs.Sets.{at_lt, removed, absent}
use Rattle.ordered.proofs.remove.Goals as goal

pub remove_at-requires : goal.remove_at-requires
remove_at-requires c = search (rules, at_lt)

pub returns-then-f : goal.returns-then-f
returns-then-f c = search (rules, removed)

pub returns-else-f : goal.returns-else-f
returns-else-f c = search (rules, absent)
