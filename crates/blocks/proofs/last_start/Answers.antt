use Rattle.blocks.proofs.Rows.{last_start_is}
use borrow.Author.Rules.{rules}
use Rattle.blocks.proofs.last_start.Goals as goal

pub returns : goal.returns
returns c = search (rules, last_start_is)
