use Rattle.records_blocks.proofs.Reached.{at_start, step, at_end}
use Rattle.records_blocks.proofs.sweep.Goals as goal

pub loop-i-init : goal.loop-i-init
loop-i-init c = at_start _ _ _ c.requires

pub loop-i-preserved : goal.loop-i-preserved
loop-i-preserved c = rw c.turn-d.ensures (step _ _ _ c.requires _ _ _ c.loop-i.invariant c.loop-i-test.true)

pub returns : goal.returns
returns c = at_end _ _ _ c.requires _ _ _ c.loop-i.invariant c.loop-i-test.false
