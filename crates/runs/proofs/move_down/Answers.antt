use mathlib.Core.Path.{◌≡◌}
use native.Mathlib.Omega.{arith}
use Rattle.runs.proofs.Laws.{copied_start, lowered_next}
use Rattle.runs.proofs.move_down.Goals as goal

pub loop-k-init : goal.loop-k-init
loop-k-init c = (omega arith, copied_start _ _ _)

pub loop-k-preserved : goal.loop-k-preserved
loop-k-preserved c = (omega arith, lowered_next _ _ _ _ c.args.count _ (omega arith) (omega arith) (omega arith) c.loop-k.invariant.1)

pub returns : goal.returns
returns c = let e : c.loop-k.k ≡ c.args.count = omega arith in rw e at c.loop-k.invariant.1.same
