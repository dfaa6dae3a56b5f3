use Prim.Native.Nat.{◌+◌, ◌*◌, ◌≤◌}
use mathlib.Core.Path.{◌≡◌}
use mathlib.Core.List.{map}
use lib.ListN.{drop}
use Rattle.rules.specs.Check.{count_bytes}
use Rattle.obj_image.specs.Sections.{read_row}
use Rattle.obj_image.proofs.sections.count_bytes.Given as goal

-- `obj::sections::count_bytes` adds up the bytes of the rows. Assumes nothing.
abbrev pub invariant-loop-row : goal.invariant-loop-row
invariant-loop-row l = (l.count ≤ 0x1_0000_0000 * l.row-index) × (l.count + count_bytes (map read_row (drop l.row-index l.sections)) ≡ count_bytes (map read_row l.sections))
