use mathlib.Core.Path.{sym, ◌∙◌}
use Rattle.records_blocks.proofs.Turns.{place_first, place_open, place_swap, place_cut, place_full}
use Rattle.records_blocks.proofs.place.Goals as goal

pub returns-then-p-eq0 : goal.returns-then-p-eq0
returns-then-p-eq0 c = c.«open».ensures ∙ sym (place_first _ _ _ _ c.if-p-eq0.true)

pub returns-then-c : goal.returns-then-c
returns-then-c c = c.open-then-c.ensures ∙ sym (place_open _ _ _ _ c.if-p-eq0.false c.if-c.true)

pub returns-then-c-2 : goal.returns-then-c-2
returns-then-c-2 c = rw c.change.ensures (sym (place_swap _ _ _ _ c.if-p-eq0.false c.if-c.false c.if-c-2.true))

pub returns-then-count-room : goal.returns-then-count-room
returns-then-count-room c = (rw c.change-then-count-room.ensures at c.grow.ensures) ∙ sym (place_cut _ _ _ _ c.if-p-eq0.false c.if-c.false c.if-c-2.false c.if-count-room.true)

pub returns : goal.returns
returns c = c.refuse.ensures ∙ sym (place_full _ _ _ _ c.if-p-eq0.false c.if-c.false c.if-c-2.false c.if-count-room.false)
