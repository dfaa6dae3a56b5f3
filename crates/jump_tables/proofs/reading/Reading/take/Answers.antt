use Rattle.jump_tables.proofs.Readings.{unaligned, no_room, took}
use Rattle.jump_tables.proofs.reading.Reading.take.Goals as goal

pub returns-then-value-ne0-clause-is : goal.returns-then-value-ne0-clause-is
returns-then-value-ne0-clause-is c = unaligned _ _ _ c.if-value-ne0.true

pub returns-then-self-eq0-clause-is : goal.returns-then-self-eq0-clause-is
returns-then-self-eq0-clause-is c = no_room _ _ _ c.if-value-ne0.false c.if-self-eq0.true

pub returns-clause-is : goal.returns-clause-is
returns-clause-is c = took _ _ _ _ _ c.if-value-ne0.false c.if-self-eq0.false c.insert.ensures
