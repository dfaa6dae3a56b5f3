use native.Mathlib.Omega.{arith}
use Rattle.reading.proofs.Ending.{word_large, word_full, word_put, back_is, set_is}
use Rattle.reading.proofs.words.add_word.Goals as goal

pub returns-then-given-gt4026531836 : goal.returns-then-given-gt4026531836
returns-then-given-gt4026531836 c = let a = c.args in word_large a.count a.m a.w _ a.sections.now a.bytes.now c.requires.1 c.requires.2 (back_is a.count a.sections.now c.requires.1 1 (omega arith) (omega arith)) c.if-given-gt4026531836.true

pub returns-then-bytes-m-lt4 : goal.returns-then-bytes-m-lt4
returns-then-bytes-m-lt4 c = let a = c.args in word_full a.count a.m a.w _ a.sections.now a.bytes.now c.requires.1 c.requires.2 (back_is a.count a.sections.now c.requires.1 1 (omega arith) (omega arith)) c.if-given-gt4026531836.false c.if-bytes-m-lt4.true

pub returns : goal.returns
returns c = let a = c.args in word_put a.count a.m a.w _ a.sections.now a.bytes.now c.requires.1 c.requires.2 (back_is a.count a.sections.now c.requires.1 1 (omega arith) (omega arith)) c.if-given-gt4026531836.false c.if-bytes-m-lt4.false _ _ c.put_word.ensures (set_is a.count a.sections.now c.requires.1 1 _ (omega arith) (omega arith))
