use Rattle.std.proofs.Common.{◌≡◌, ◌≤◌, List, length, map, take}
use Rattle.rules.specs.Ordered.{Rising}
use Rattle.rules.specs.Slices.{from_of}
use Rattle.tables.specs.declared.multimap.Way.{Way}
use Rattle.tables.specs.Groups.{leaves, goes_to, grouped}
use Rattle.tables.proofs.multimap.fill.Given as goal

abbrev pub invariant-loop-from : goal.invariant-loop-from
invariant-loop-from g l = record {
  rising : Rising from_of (grouped l.ways.items);
  same : (ways : List Way) → Rising from_of (grouped ways) → length ways ≤ g.row.N → l.froms ≡ map leaves ways → l.tos ≡ map goes_to ways → l.ways.items ≡ take (length l.yielded) ways;
}
