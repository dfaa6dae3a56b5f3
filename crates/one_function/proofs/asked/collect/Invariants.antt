use Rattle.std.proofs.Common.{◌≡◌, map, take}
use Rattle.one_function.specs.Rows.{row_in}
use Rattle.one_function.proofs.asked.collect.Given as goal

abbrev pub invariant-loop-row : goal.invariant-loop-row
invariant-loop-row l = l.known ≡ take l.row-index (map row_in l.rows)
