use Prim.Native.Nat.{◌≤◌}
use lib.ListN.{drop}
use Rattle.runs.proofs.Laws.{Copied}
use Rattle.runs.proofs.move_down.Given as goal

abbrev pub invariant-loop-k : goal.invariant-loop-k
invariant-loop-k l = (l.k ≤ l.count) × Copied l.initial.xs l.dst (drop l.src l.initial.xs) l.k l.xs
