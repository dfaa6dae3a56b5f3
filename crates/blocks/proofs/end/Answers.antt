use Rattle.blocks.proofs.Rows.{last_end_is}
use borrow.Author.Rules.{rules}
use Rattle.blocks.proofs.end.Goals as goal

pub returns : goal.returns
returns c = search (rules, last_end_is)
