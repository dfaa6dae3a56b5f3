-- The others are moved up, and the last are written before them.
use Rattle.std.proofs.Common.{arith}
use Rattle.tables.proofs.Forward.{forward_next, forward_all}
use Rattle.tables.proofs.multimap.bring_forward.Goals as goal

pub loop-at-preserved : goal.loop-at-preserved
loop-at-preserved c = forward_next c.args.ways.now c.args.from c.args.targets.now c.requires.few c.loop-at.ways c.loop-at.at c.loop-at-test.true c.loop-at.invariant

pub returns : goal.returns
returns c = forward_all c.args.ways.now c.args.from c.args.targets.now c.requires.few c.loop-at.ways c.loop-at.at (omega arith) c.requires.last c.loop-at.invariant
