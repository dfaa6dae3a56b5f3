use borrow.Author.Rules.{rules}
use Rattle.ordered.proofs.Sets.{place_le, already, full, inserted}
use Rattle.ordered.proofs.insert.Goals as goal

pub returns-then-f : goal.returns-then-f
returns-then-f c = search (rules, already)

pub returns-then-count-room : goal.returns-then-count-room
returns-then-count-room c = search (rules, full)

pub insert_at-requires : goal.insert_at-requires
insert_at-requires c = search (rules, place_le)

pub returns : goal.returns
returns c = search (rules, inserted)
