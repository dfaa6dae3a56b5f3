use native.Mathlib.Omega.{arith}
use Rattle.printing.proofs.Maps.{refusal_begun, answer_room}
use borrow.Author.Rules.{rules}
use Rattle.printing.proofs.put_refusal.Goals as goal

pub put_answer-requires : goal.put_answer-requires
put_answer-requires c = record { number = omega (arith, c.requires.0); room = answer_room _ _ c.new-text.ensures.lent c.new-text.ensures.empty _ c.requires.1 }

pub returns : goal.returns
returns c = refusal_begun _ _ c.new-text.ensures.lent c.new-text.ensures.empty _ _ c.put_answer.new.self (search rules) c.len.ensures _ c.put_answer.ensures
