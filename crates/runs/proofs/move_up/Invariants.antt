use Prim.Native.Nat.{◌≤◌}
use Rattle.runs.proofs.Laws.{Raised}
use Rattle.runs.proofs.move_up.Given as goal

abbrev pub invariant-loop-k : goal.invariant-loop-k
invariant-loop-k l = (l.k ≤ l.count) × Raised l.initial.xs l.src l.dst l.count l.k l.xs
