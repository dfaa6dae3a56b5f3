use borrow.Author.Rules.{rules}
use Rattle.blocks.proofs.Rows.{starts_rise, hit_is}
use Rattle.blocks.proofs.has_start.Goals as goal

pub find-requires : goal.find-requires
find-requires c = search (rules, starts_rise)

pub returns : goal.returns
returns c = search (rules, hit_is)
