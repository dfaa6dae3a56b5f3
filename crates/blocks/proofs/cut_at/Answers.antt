use Rattle.blocks.proofs.Puts.{before_place, before_in, trimmed_looked, cut_rows}
use borrow.Author.Rules.{rules}
use Rattle.blocks.proofs.cut_at.Goals as goal

pub overflow_sub-q : goal.overflow_sub-q
overflow_sub-q c = search (rules, before_place)

pub replace_at-requires : goal.replace_at-requires
replace_at-requires c = search (rules, before_in)

pub put_at-requires : goal.put_at-requires
put_at-requires c = trimmed_looked _ _ _ _ _ _ c.requires _ c.replace_at.ensures

pub returns : goal.returns
returns c = cut_rows _ _ _ _ _ _ c.requires _ c.replace_at.ensures _ _ _ c.put_at.ensures
