use Rattle.printing.proofs.Maps.{left_ends, first_room, left_next}
use Rattle.printing.proofs.put_entries.Goals as goal

pub put_entry-requires : goal.put_entry-requires
put_entry-requires c = first_room _ _ _ _ _ _ c.loop-row.invariant _ c.loop-row-test.true _ c.from-entry.ensures _ c.lists-lists.ensures

pub loop-row-preserved : goal.loop-row-preserved
loop-row-preserved c = left_next _ _ _ _ _ _ c.loop-row.invariant _ c.loop-row-test.true _ c.from-entry.ensures _ c.lists-lists.ensures _ c.put_entry.ensures

pub returns : goal.returns
returns c = left_ends _ _ _ _ _ _ c.loop-row.invariant c.loop-row-test.false
