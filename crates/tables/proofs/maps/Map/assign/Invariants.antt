use Rattle.std.proofs.Common.{◌≡◌, ◌≤◌, List, length, map, take}
use Rattle.rules.specs.Ordered.{Rising}
use Rattle.tables.specs.declared.maps.Row.{Row}
use Rattle.tables.specs.Rows.{key_of, value_of}
use Rattle.tables.proofs.maps.Map.assign.Given as goal

abbrev pub invariant-loop-key : goal.invariant-loop-key
invariant-loop-key g l = (rows : List Row) → Rising key_of rows → length rows ≤ g.row.N → l.keys ≡ map key_of rows → l.values ≡ map value_of rows → l.self ≡ take (length l.yielded) rows
