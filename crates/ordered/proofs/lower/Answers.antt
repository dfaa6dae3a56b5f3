use borrow.Author.Rules.{rules}
use Rattle.ordered.proofs.Sets.{nearest_none, nearest_some}
use Rattle.ordered.proofs.lower.Goals as goal

pub returns-then-i-eq0 : goal.returns-then-i-eq0
returns-then-i-eq0 c = search (rules, nearest_none)

pub returns-else-i-eq0 : goal.returns-else-i-eq0
returns-else-i-eq0 c = search (rules, nearest_some)
