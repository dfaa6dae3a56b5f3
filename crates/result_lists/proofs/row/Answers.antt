use Rattle.std.proofs.Common.{rules, ◌≡◌, ◌≤◌, ◌*◌, ℕ, List, length, true, false, ◌+◌, ◌-◌, ◌<◌, ◌/◌, ◌%◌, Bool, nat_eq, nat_lt, [], ◌∷◌, ◌++◌, slice_index_or, slice_set, bit_and, bit_or, Fits, w8, w32, w64, Bor, MutBor}
use Rattle.rules.specs.Known.{Entry}
use Rattle.rules.specs.Map.{Capacity}
use Rattle.tables.specs.Rows as tables
use Rattle.analyzer.specs.Table.{Holds, info_of}
use Rattle.result_lists.specs.Rows.{ROW, flags, result_row, rows_of, padded, Results}
use Rattle.result_lists.proofs.Putting.{row_some}
use Rattle.result_lists.proofs.row.Goals as goal

-- src/lib.rt:36:1
pub returns-in-Some : goal.returns-in-Some
returns-in-Some c x er ea =
    rw (c.from.ensures, c.from-in-Some.ensures, c.from-in-Some-2.ensures, c.from-in-Some-3.ensures, c.from-in-Some-4.ensures)
    (row_some x c.args.info.now c.args.entry c.in-Some.header c.flags-flags.result c.unwrap_or.result c.unwrap_or-in-Some.result er ea c.in-Some.is (c.flags-flags.ensures x ea) c.unwrap_or.ensures c.unwrap_or-in-Some.ensures)
