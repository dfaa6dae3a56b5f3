use borrow.Author.Rules.{rules}
use Rattle.blocks.proofs.Rows.{starts_rise, place_starts, place_ends, below_at}
use Rattle.blocks.proofs.lower.Goals as goal

pub rank_in-p-requires : goal.rank_in-p-requires
rank_in-p-requires c = search (rules, starts_rise)

pub before_place-requires : goal.before_place-requires
before_place-requires c = search (rules, place_starts)

pub before_place-requires-2 : goal.before_place-requires-2
before_place-requires-2 c = search (rules, place_ends)

pub returns : goal.returns
returns c = search (rules, below_at)
