use Prim.Native.Nat.{◌≤◌}
use Rattle.ordered.proofs.Shift.{Moved}
use Rattle.ordered.proofs.insert_at.Given as goal

abbrev pub invariant-loop-k : goal.invariant-loop-k
invariant-loop-k l = (l.at ≤ l.k) × (l.k ≤ l.count) × Moved l.initial.xs l.count l.k l.xs
