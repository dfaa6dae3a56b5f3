use Rattle.jump_tables.proofs.Readings.{passed_over, nowhere, somewhere}
use Rattle.jump_tables.proofs.words.sized_word.Goals as goal

pub returns-then-value-eq0 : goal.returns-then-value-eq0
returns-then-value-eq0 c = passed_over _ _ _ c.if-value-eq0.true

pub returns-in-Some : goal.returns-in-Some
returns-in-Some c = somewhere _ _ _ c.if-value-eq0.false _ c.in-Some.ensures.value _ c.take.ensures.is

pub returns-in-None : goal.returns-in-None
returns-in-None c = nowhere _ _ _ c.if-value-eq0.false c.in-None.ensures.value
