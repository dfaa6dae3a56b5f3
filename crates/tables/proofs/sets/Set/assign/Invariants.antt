use Rattle.std.proofs.Common.{◌≡◌, ◌≤◌, length, take}
use Rattle.rules.specs.Ordered.{self as own, Rising}
use Rattle.tables.proofs.sets.Set.assign.Given as goal

abbrev pub invariant-loop-item : goal.invariant-loop-item
invariant-loop-item g l = Rising own l.items → length l.items ≤ g.row.N → l.self ≡ take l.item-index l.items
