use Rattle.std.proofs.Common.{arith, below_more}
use Rattle.replay.proofs.Marking.{marked, unmarked}
use Rattle.replay.proofs.cutting.next_mark.Goals as goal

pub loop-i-init : goal.loop-i-init
loop-i-init c = λ k h. absurd (omega arith)

pub returns-then-is_mark : goal.returns-then-is_mark
returns-then-is_mark c = (marked _ _ _ c.is_mark.ensures c.if-is_mark.true, c.loop-i.invariant)

pub loop-i-preserved : goal.loop-i-preserved
loop-i-preserved c = below_more _ _ c.loop-i.invariant (unmarked _ _ _ c.is_mark.ensures c.if-is_mark.false)

pub returns : goal.returns
returns c = λ k m. c.loop-i.invariant k (omega (arith, m.inside)) m
