use Rattle.std.proofs.Common.{◌≡◌, ℕ, List, length, drop}
use Rattle.rules.specs.Choice.{any}
use Rattle.rules.specs.Known.{Entry, is_unfinalized}
use Rattle.rules.specs.Map.{Capacity}
use Rattle.analyzer.specs.Table.{Holds}
use Rattle.analyzer.proofs.AnalyzerState.any_unfinalized.Given as goal

abbrev pub invariant-loop-entry : goal.invariant-loop-entry
invariant-loop-entry l = (cap : Capacity) (lists : List ℕ) (es : List Entry) → Holds cap l.self lists es → any is_unfinalized (drop (length l.yielded) es) ≡ any is_unfinalized es
