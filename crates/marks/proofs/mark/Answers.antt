use Rattle.marks.proofs.Marks.{not_markable, too_many, table_is, room_is, answer_is}
use Rattle.marks.proofs.mark.Goals as goal

pub returns-then-room-count : goal.returns-then-room-count
returns-then-room-count c = too_many _ _ _ _ _ c.is_markable.ensures c.if-is_markable.true _ c.room_in-room.ensures c.if-room-count.true

pub add_block_start-r-requires : goal.add_block_start-r-requires
add_block_start-r-requires c = let a = c.args.addr in
    record { table = table_is _ a _ _ _ c.is_markable.ensures c.if-is_markable.true; room = room_is _ a _ _ _ c.is_markable.ensures c.if-is_markable.true _ c.room_in-room.ensures c.if-room-count.false }

pub returns-then-is_markable : goal.returns-then-is_markable
returns-then-is_markable c = answer_is _ _ _ _ _ c.is_markable.ensures c.if-is_markable.true _ _ _ _ _ c.room_in-room.ensures c.if-room-count.false c.add_block_start-r.ensures c.answered.ensures

pub returns : goal.returns
returns c = not_markable _ _ _ _ _ c.is_markable.ensures c.if-is_markable.false
