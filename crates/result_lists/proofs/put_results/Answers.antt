use Rattle.std.proofs.Common.{rules, ◌≡◌, ◌≤◌, ◌*◌, ℕ, List, length, true, false, ◌+◌, ◌-◌, ◌<◌, ◌/◌, ◌%◌, Bool, nat_eq, nat_lt, [], ◌∷◌, ◌++◌, slice_index_or, slice_set, bit_and, bit_or, Fits, w8, w32, w64, Bor, MutBor}
use Rattle.rules.specs.Known.{Entry}
use Rattle.rules.specs.Map.{Capacity}
use Rattle.tables.specs.Rows as tables
use Rattle.analyzer.specs.Table.{Holds, info_of}
use Rattle.result_lists.specs.Rows.{ROW, flags, result_row, rows_of, padded, Results}
use Rattle.result_lists.proofs.Putting.{results_done}
use Rattle.result_lists.proofs.put_results.Goals as goal

pub returns : goal.returns
returns c room es h = results_done _ _ _ _ h c.numbers_len.result c.min-total.result (c.numbers_len.ensures room c.args.lists.now es h) c.min-total.ensures _ _ _ (c.put_rows.ensures room c.args.lists.now es h) c.fill.ensures
