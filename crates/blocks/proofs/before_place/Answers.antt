use Rattle.blocks.proofs.Rows.{before_next}
use borrow.Author.Rules.{rules}
use Rattle.blocks.proofs.before_place.Goals as goal

pub returns : goal.returns
returns c = search (rules, before_next)
