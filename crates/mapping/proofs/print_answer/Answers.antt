use native.Mathlib.Omega.{arith}
use Rattle.mapping.proofs.Answers.{telling, number_low, map_shown, refusal_shown}
use Rattle.mapping.proofs.print_answer.Goals as goal

pub put_map-requires : goal.put_map-requires
put_map-requires c = record { map = telling _ _ _ (rw c.in-Ok.is at c.requires.shown); room = rw c.in-Ok.is at c.requires.room }

pub returns-in-Ok : goal.returns-in-Ok
returns-in-Ok c = rw c.in-Ok.is (map_shown _ _ _ _ _ _ c.put_map.ensures)

pub put_refusal-requires : goal.put_refusal-requires
put_refusal-requires c = (rw c.number.ensures (number_low _ _ _ (rw c.in-Err.is at c.requires.shown)), omega (arith, c.requires.room))

pub returns-in-Err : goal.returns-in-Err
returns-in-Err c = rw c.in-Err.is (refusal_shown _ _ _ _ _ _ _ c.number.ensures c.put_refusal.ensures)
