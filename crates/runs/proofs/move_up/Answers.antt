use mathlib.Core.Path.{◌≡◌}
use native.Mathlib.Omega.{arith}
use Rattle.runs.proofs.Laws.{raised_start, raised_next, raised_end}
use Rattle.runs.proofs.move_up.Goals as goal

pub loop-k-init : goal.loop-k-init
loop-k-init c = (omega arith, raised_start _ _ _ _)

pub loop-k-preserved : goal.loop-k-preserved
loop-k-preserved c = (omega arith, raised_next _ _ _ _ _ _ _ (omega arith) (omega arith) (omega arith) (omega arith) c.loop-k.invariant.1)

pub returns : goal.returns
returns c = let e : c.loop-k.k ≡ 0 = omega arith in (raised_end _ _ _ _ _ (rw e at c.loop-k.invariant.1)).same
