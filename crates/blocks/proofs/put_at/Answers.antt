use Rattle.blocks.proofs.Puts.{looked_le, looked_lt, spare_starts, spare_ends, put_held_row, put_new_row}
use borrow.Author.Rules.{rules}
use Rattle.blocks.proofs.put_at.Goals as goal

pub replace_at-requires : goal.replace_at-requires
replace_at-requires c = search (rules, looked_lt)

pub returns-then-f : goal.returns-then-f
returns-then-f c = search (rules, put_held_row)

pub insert_at-requires : goal.insert_at-requires
insert_at-requires c = (search (rules, looked_le), search (rules, spare_starts))

pub insert_at-requires-2 : goal.insert_at-requires-2
insert_at-requires-2 c = (search (rules, looked_le), spare_ends _ _ _ _ _ c.requires c.if-f.false)

pub returns : goal.returns
returns c = search (rules, put_new_row)
