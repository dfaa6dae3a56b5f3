use native.Mathlib.Omega.{arith}
use Rattle.ordered.proofs.Shift.{closed_start, closed_step, closed_end}
use Rattle.ordered.proofs.remove_at.Goals as goal

pub loop-k-init : goal.loop-k-init
loop-k-init c = (omega arith, omega arith, omega arith, closed_start _ _ _ c.requires.0)

pub loop-k-preserved : goal.loop-k-preserved
loop-k-preserved c = (omega arith, omega arith, omega arith, closed_step _ _ _ _ _ _ (omega arith) (omega arith) (omega arith) (omega arith) c.loop-k.invariant.3)

pub returns : goal.returns
returns c = closed_end _ _ _ _ _ _ (omega arith) (omega arith) c.requires.0 c.requires.1 c.loop-k.invariant.3
