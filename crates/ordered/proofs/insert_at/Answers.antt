use mathlib.Core.Path.{◌≡◌}
use native.Mathlib.Omega.{arith}
use Rattle.ordered.proofs.Shift.{moved_start, moved_step, moved_end}
use Rattle.ordered.proofs.insert_at.Goals as goal

pub loop-k-init : goal.loop-k-init
loop-k-init c = (omega arith, omega arith, moved_start _ _ (omega arith))

pub loop-k-preserved : goal.loop-k-preserved
loop-k-preserved c = (omega arith, omega arith, moved_step _ _ _ _ _ _ (omega arith) (omega arith) (omega arith) (omega arith) c.loop-k.invariant.2)

pub returns : goal.returns
returns c =
    let e : c.loop-k.k ≡ c.args.at = omega arith in moved_end _ _ _ _ _ (omega arith) (omega arith) (rw e at c.loop-k.invariant.2)
