use Rattle.std.proofs.Common.{◌≡◌, ℕ, map, take}
use Rattle.numbers.specs.Columns.{Computes}
use Rattle.numbers.proofs.put_column.Given as goal

abbrev pub invariant-loop-at : goal.invariant-loop-at
invariant-loop-at g l = (f : g.row.T.Denot → ℕ) → Computes (goal.F-post g l.number) f → take l.at l.column ≡ map f (take l.at l.rows)
