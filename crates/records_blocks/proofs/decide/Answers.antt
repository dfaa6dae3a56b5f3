use mathlib.Core.Path.{sym, ◌∙◌}
use Rattle.records_blocks.proofs.Turns.{plan_past, plan_odd, plan_unsound, plan_place, plan_full}
use Rattle.records_blocks.proofs.decide.Goals as goal

pub returns-then-len-count : goal.returns-then-len-count
returns-then-len-count c = c.refuse.ensures ∙ sym (plan_past _ _ _ _ c.if-len-count.true)

pub returns-then-count-room : goal.returns-then-count-room
returns-then-count-room c = (rw c.room_in-room.ensures at c.place.ensures)
    ∙ sym (plan_place _ _ _ _ c.if-len-count.false c.if-c-eq0.true c.if-c.true (rw c.room_in-room.ensures at c.if-count-room.true))

pub returns-then-c : goal.returns-then-c
returns-then-c c = c.refuse-then-c.ensures
    ∙ sym (plan_full _ _ _ _ c.if-len-count.false c.if-c-eq0.true c.if-c.true (rw c.room_in-room.ensures at c.if-count-room.false))

pub returns-then-c-eq0 : goal.returns-then-c-eq0
returns-then-c-eq0 c = c.refuse-then-c-eq0.ensures ∙ sym (plan_unsound _ _ _ _ c.if-len-count.false c.if-c-eq0.true c.if-c.false)

pub returns : goal.returns
returns c = c.refuse-2.ensures ∙ sym (plan_odd _ _ _ _ c.if-len-count.false c.if-c-eq0.false)
