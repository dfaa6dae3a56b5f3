use Rattle.std.proofs.Common.{ap, sym, ◌∙◌, arith, length}
use Rattle.std.proofs.lemmas.Result.{err_from_is_err_and}
use Rattle.jump_tables.specs.Entries.{entries_of}
use Rattle.jump_tables.proofs.Tables.{entries_by}
use Rattle.walks.specs.Around.{around_of}
use Rattle.walks.specs.State.{walk_of}
use Rattle.walks.proofs.Steps.{on_slices_is}
use Rattle.walks.proofs.Tabled.{table_err, own_table, other_table}
use Rattle.walks.proofs.walk.Walk.do_table.Goals as goal

pub returns-in_err-table : goal.returns-in_err-table
returns-in_err-table c = λ es knows.
    let p = err_from_is_err_and c.from_residual.result c.from_residual.ensures.1 in
    rw (p.1, p.2) (table_err (around_of c.args.around.now es) _ _ _ (walk_of c.args.self.now) _ (c.in_err-table.ensures _ (c.known_end-past.ensures es) ∙ entries_by c.args.around.now.obj c.tables-tables.result c.tables-tables.ensures _ _ _ _))

pub do_own_table-requires : goal.do_own_table-requires
do_own_table-requires c = omega (arith, c.is_own_table.ensures.some c.if-is_own_table.true, ap length c.as_slice-entries.ensures.items)

pub returns-then-is_own_table : goal.returns-then-is_own_table
returns-then-is_own_table c = λ es knows.
    c.do_own_table.ensures (around_of c.args.around.now es) ∙
    sym (own_table (around_of c.args.around.now es) _ _ _ (walk_of c.args.self.now) (entries_of c.in_ok-table.table) (c.in_ok-table.ensures _ (c.known_end-past.ensures es) ∙ entries_by c.args.around.now.obj c.tables-tables.result c.tables-tables.ensures _ _ _ _) _ c.as_slice-entries.ensures.items _ (c.is_own_table.ensures.own es knows) c.if-is_own_table.true)

pub returns : goal.returns
returns c = λ es knows.
    on_slices_is _ (walk_of c.args.self.now) _ _ c.add_all_possible_blocks.ensures ∙
    sym (other_table (around_of c.args.around.now es) _ _ _ (walk_of c.args.self.now) (entries_of c.in_ok-table.table) (c.in_ok-table.ensures _ (c.known_end-past.ensures es) ∙ entries_by c.args.around.now.obj c.tables-tables.result c.tables-tables.ensures _ _ _ _) _ c.as_slice-entries.ensures.items _ (c.is_own_table.ensures.own es knows) c.if-is_own_table.false)
