use Rattle.std.proofs.Common.{◌≡◌, ℕ, List, length, drop, ◌≤◌, ◌++◌, map}
use Rattle.rules.specs.Choice.{filter}
use Rattle.rules.specs.Known.{Entry, entry_of, is_unfinalized}
use Rattle.rules.specs.Map.{Capacity}
use Rattle.analyzer.specs.Table.{Holds}
use Rattle.analyzer.proofs.AnalyzerState.unfinalized.Given as goal

abbrev pub invariant-loop-row : goal.invariant-loop-row
invariant-loop-row l = record {
  few : length l.entries.items ≤ length l.yielded;
  same : (cap : Capacity) (lists : List ℕ) (es : List Entry) → Holds cap l.self lists es → l.entries.items ++ map entry_of (filter is_unfinalized (drop (length l.yielded) es)) ≡ map entry_of (filter is_unfinalized es);
}
