use Rattle.std.proofs.Common.{◌-◌}
use Rattle.records_blocks.proofs.Reached.{Reached}
use Rattle.records_blocks.proofs.sweep.Given as goal

abbrev pub invariant-loop-i : goal.invariant-loop-i
invariant-loop-i l = Reached l.count l.fn.c l.fn.blocks l.i l.d l.blocks

abbrev pub decreases-loop-i : goal.decreases-loop-i
decreases-loop-i l = l.count - l.i
