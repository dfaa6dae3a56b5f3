use Rattle.blocks.proofs.Rows.{start_none, start_some}
use borrow.Author.Rules.{rules}
use Rattle.blocks.proofs.start.Goals as goal

pub returns-then-count-eq0 : goal.returns-then-count-eq0
returns-then-count-eq0 c = search (rules, start_none)

pub returns : goal.returns
returns c = search (rules, start_some)
