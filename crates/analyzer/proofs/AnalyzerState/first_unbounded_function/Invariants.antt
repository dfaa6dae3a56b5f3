use Rattle.std.proofs.Common.{◌≡◌, ℕ, List, length, drop}
use Rattle.rules.specs.Known.{Entry}
use Rattle.rules.specs.Map.{Capacity, first_unbounded_function}
use Rattle.analyzer.specs.Table.{Holds}
use Rattle.analyzer.proofs.AnalyzerState.first_unbounded_function.Given as goal

abbrev pub invariant-loop-row : goal.invariant-loop-row
invariant-loop-row l = (cap : Capacity) (lists : List ℕ) (es : List Entry) → Holds cap l.self lists es → first_unbounded_function (drop (length l.yielded) es) ≡ first_unbounded_function es
