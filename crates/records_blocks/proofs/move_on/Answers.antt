use mathlib.Core.Path.{sym}
use Rattle.records_blocks.proofs.Turns.{turn_pass, turn_find, turn_cut, turn_under, turn_whole, turn_shift, turn_swap, turn_past, turn_keep}
use Rattle.records_blocks.proofs.move_on.Goals as goal

pub returns-then-b-c : goal.returns-then-b-c
returns-then-b-c c = sym (turn_pass _ _ _ c.if-c-eq0.true c.if-b-c.true)

pub returns-then-c-eq0 : goal.returns-then-c-eq0
returns-then-c-eq0 c = sym (turn_find _ _ _ c.if-c-eq0.true c.if-b-c.false)

pub returns-then-i-c-2 : goal.returns-then-i-c-2
returns-then-i-c-2 c = sym (turn_cut _ _ _ c.if-c-eq0.false c.if-i-c.true c.if-c.true c.if-i-c-2.true)

pub returns-then-c : goal.returns-then-c
returns-then-c c = sym (turn_under _ _ _ c.if-c-eq0.false c.if-i-c.true c.if-c.true c.if-i-c-2.false)

pub returns-then-i-c : goal.returns-then-i-c
returns-then-i-c c = sym (turn_whole _ _ _ c.if-c-eq0.false c.if-i-c.true c.if-c.false)

pub returns-then-c-eq3 : goal.returns-then-c-eq3
returns-then-c-eq3 c = sym (turn_shift _ _ _ c.if-c-eq0.false c.if-i-c.false c.if-c-eq3.true)

pub returns-then-i-c-3 : goal.returns-then-i-c-3
returns-then-i-c-3 c = sym (turn_swap _ _ _ c.if-c-eq0.false c.if-i-c.false c.if-c-eq3.false c.if-c-eq4.true c.if-i-c-3.true)

pub returns-then-c-eq4 : goal.returns-then-c-eq4
returns-then-c-eq4 c = sym (turn_past _ _ _ c.if-c-eq0.false c.if-i-c.false c.if-c-eq3.false c.if-c-eq4.true c.if-i-c-3.false)

pub returns : goal.returns
returns c = sym (turn_keep _ _ _ c.if-c-eq0.false c.if-i-c.false c.if-c-eq3.false c.if-c-eq4.false)
