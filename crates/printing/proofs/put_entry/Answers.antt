use Rattle.printing.proofs.Printing.{printed_then, room_first, room_next}
use Rattle.printing.proofs.Entries.{printed_function, printed_aside}
use Rattle.printing.proofs.put_entry.Goals as goal

pub put_function_line-requires : goal.put_function_line-requires
put_function_line-requires c = room_first _ _ _ (rw (printed_function _ _ _ c.is_function.ensures c.if-is_function.true) at c.requires)

pub put_lists-requires : goal.put_lists-requires
put_lists-requires c = room_next (rw (printed_function _ _ _ c.is_function.ensures c.if-is_function.true) at c.requires) c.put_function_line.ensures

pub put_line-requires : goal.put_line-requires
put_line-requires c = rw (printed_aside _ _ _ c.is_function.ensures c.if-is_function.false) at c.requires

pub returns-then-is_function : goal.returns-then-is_function
returns-then-is_function c = rw (printed_function _ _ _ c.is_function.ensures c.if-is_function.true) (printed_then c.put_function_line.ensures c.put_lists.ensures)

pub returns-else-is_function : goal.returns-else-is_function
returns-else-is_function c = rw (printed_aside _ _ _ c.is_function.ensures c.if-is_function.false) c.put_line.ensures
