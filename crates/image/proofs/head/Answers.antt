use Rattle.image.proofs.Parts.{head_read, head_none}
use native.Mathlib.Omega.{arith}
use Rattle.image.proofs.head.Goals as goal

pub returns-then-image-lt-HEADER : goal.returns-then-image-lt-HEADER
returns-then-image-lt-HEADER c = (head_none _ _ c.if-image-lt-HEADER.true, omega arith)

pub returns : goal.returns
returns c = (head_read _ _ _ c.if-image-lt-HEADER.false c.wide.ensures.0, c.wide.ensures.1)
