use Rattle.blocks.proofs.Checks.{or_right}
use borrow.Author.Rules.{rules}
use Rattle.blocks.proofs.has_room.Goals as goal

pub returns : goal.returns
returns c = search (rules, or_right)
