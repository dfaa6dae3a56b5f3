use Rattle.blocks.proofs.Adds.{looked, stored, not_stored}
use Rattle.blocks.proofs.Rows.{starts_rise}
use borrow.Author.Rules.{rules}
use Rattle.blocks.proofs.set_end.Goals as goal

pub find-f-requires : goal.find-f-requires
find-f-requires c = search (rules, starts_rise)

pub put_at-count-requires : goal.put_at-count-requires
put_at-count-requires c = search (rules, looked)

pub returns-then-has_room : goal.returns-then-has_room
returns-then-has_room c = search (rules, stored)

pub returns : goal.returns
returns c = search (rules, not_stored)
