use Rattle.reading.proofs.Cases.{digits_are, digits_not, digits_long}
use Rattle.reading.proofs.line.of_digits.Goals as goal

pub returns-then-line-a : goal.returns-then-line-a
returns-then-line-a c = let a = c.args in digits_long a.line.now a.kind a.a a.b a.c c.if-line-a.true

pub returns-then-allows : goal.returns-then-allows
returns-then-allows c = let a = c.args in rw c.frame.ensures (digits_are a.line.now a.kind a.a a.b a.c c.if-line-a.false _ _ _ c.hex-first.ensures c.hex-second.ensures c.hex-third.ensures _ c.allows.ensures c.if-allows.true)

pub returns-else-allows : goal.returns-else-allows
returns-else-allows c = let a = c.args in digits_not a.line.now a.kind a.a a.b a.c c.if-line-a.false _ _ _ c.hex-first.ensures c.hex-second.ensures c.hex-third.ensures _ c.allows.ensures c.if-allows.false
