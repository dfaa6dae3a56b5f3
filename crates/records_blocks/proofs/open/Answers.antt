use mathlib.Core.Path.{sym, ◌∙◌}
use Rattle.records_blocks.proofs.Turns.{open_only, open_held, open_new, open_full}
use Rattle.records_blocks.proofs.open.Goals as goal

pub returns-then-only : goal.returns-then-only
returns-then-only c = c.stay.ensures ∙ sym (open_only _ _ _ _ c.if-only.true)

pub returns-then-c : goal.returns-then-c
returns-then-c c = c.stay-then-c.ensures ∙ sym (open_held _ _ _ _ c.if-only.false c.if-c.true)

pub returns-then-count-room : goal.returns-then-count-room
returns-then-count-room c = (rw c.change.ensures at c.grow.ensures) ∙ sym (open_new _ _ _ _ c.if-only.false c.if-c.false c.if-count-room.true)

pub returns : goal.returns
returns c = c.refuse.ensures ∙ sym (open_full _ _ _ _ c.if-only.false c.if-c.false c.if-count-room.false)
