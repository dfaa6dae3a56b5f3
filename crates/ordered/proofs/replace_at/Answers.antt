use borrow.Author.Rules.{rules}
use Rattle.ordered.proofs.Sets.{replaced}
use Rattle.ordered.proofs.replace_at.Goals as goal

pub returns : goal.returns
returns c = search (rules, replaced)
