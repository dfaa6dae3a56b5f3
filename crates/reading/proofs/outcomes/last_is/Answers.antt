use native.Mathlib.Omega.{arith}
use Rattle.reading.proofs.Ending.{no_word, word_kind, back_is}
use Rattle.reading.proofs.outcomes.last_is.Goals as goal

pub returns-then-count-lt6 : goal.returns-then-count-lt6
returns-then-count-lt6 c = let a = c.args in no_word a.count a.outcomes.now c.requires a.kind c.if-count-lt6.true

pub returns : goal.returns
returns c = let a = c.args in word_kind a.count a.outcomes.now c.requires a.kind _ c.if-count-lt6.false (back_is a.count a.outcomes.now c.requires 6 (omega arith) c.if-count-lt6.false)
