use Rattle.std.proofs.Common.{sym, ◌∙◌}
use Rattle.std.proofs.lemmas.Result.{err_from_is_err_and}
use Rattle.jump_tables.specs.Entries.{entries_of}
use Rattle.walks.specs.State.{walk_of}
use Rattle.walks.proofs.Tabled.{reference_err, blocks_err, own_ok}
use Rattle.walks.proofs.walk.Walk.do_own_table.Goals as goal

pub returns-in_err-set_jump_table_reference : goal.returns-in_err-set_jump_table_reference
returns-in_err-set_jump_table_reference c = λ e.
    let p = err_from_is_err_and c.from_residual.result c.from_residual.ensures.1 in
    rw (p.1, p.2) (reference_err e _ _ (entries_of c.args.table.now) (walk_of c.args.self.now) _ c.from.ensures _ c.in_err-set_jump_table_reference.ensures)

pub returns-in_err-mark_and_push_all : goal.returns-in_err-mark_and_push_all
returns-in_err-mark_and_push_all c = λ e.
    let p = err_from_is_err_and c.from_residual-in_err-mark_and_push_all.result c.from_residual-in_err-mark_and_push_all.ensures.1 in
    rw (p.1, p.2) (blocks_err e _ _ (entries_of c.args.table.now) (walk_of c.args.self.now) _ c.from.ensures _ c.in_ok-set_jump_table_reference.ensures _ c.as_slice-entries.ensures.items _ c.in_err-mark_and_push_all.ensures)

pub returns : goal.returns
returns c = λ e.
    c.set_branches.ensures ∙
    sym (own_ok e _ _ (entries_of c.args.table.now) (walk_of c.args.self.now) _ c.from.ensures _ c.in_ok-set_jump_table_reference.ensures _ c.as_slice-entries.ensures.items _ c.in_ok-mark_and_push_all.ensures)
