use Prim.Native.Nat.{◌≤◌, ◌-◌}
use mathlib.Core.Path.{◌≡◌}
use Rattle.ordered.proofs.Shift.{Closed}
use Rattle.ordered.proofs.remove_at.Given as goal

abbrev pub invariant-loop-k : goal.invariant-loop-k
invariant-loop-k l = (l.i ≤ l.k) × (l.k ≤ l.last) × (l.last ≡ l.count - 1) × Closed l.initial.xs l.count l.i l.k l.xs
