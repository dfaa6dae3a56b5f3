use native.Mathlib.Omega.{arith}
use Rattle.mapping.proofs.Answers.{read_answered, not_read}
use Rattle.mapping.proofs.map_read.Goals as goal

pub map_lists-requires : goal.map_lists-requires
map_lists-requires c = record { room = c.requires.room }

pub returns-then-q : goal.returns-then-q
returns-then-q c = read_answered _ _ _ _ _ _ _ _ _ _ _ _ c.if-q.true c.map_lists.ensures

pub put_refusal-requires : goal.put_refusal-requires
put_refusal-requires c = (omega arith, omega (arith, c.requires.room))

pub returns-else-q : goal.returns-else-q
returns-else-q c = not_read _ _ _ _ _ _ _ _ _ _ _ _ c.if-q.false c.put_refusal.ensures
