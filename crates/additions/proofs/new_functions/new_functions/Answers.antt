use Rattle.std.proofs.Common.{◌≡◌, ◌++◌, sym, ◌∙◌, option_to_list}
use Rattle.std.proofs.lemmas.Result.{err_from_is_err_and}
use Rattle.std.proofs.lemmas.List.{append-nil}
use Rattle.tables.specs.Rows.{row}
use Rattle.additions.proofs.Search.{seek_first, seek_ends, seek_stops, seek_on}
use Rattle.additions.proofs.new_functions.new_functions.Goals as goal
use Rattle.additions.proofs.new_functions.new_functions.Goals.{in-Some, in_default}

pub loop-i-init : goal.loop-i-init
loop-i-init c = seek_first _ _ _ c.new-keys.ensures

pub returns-in_err-key-clause-fault : goal.returns-in_err-key-clause-fault
returns-in_err-key-clause-fault c =
    let p = err_from_is_err_and c.from_residual.result c.from_residual.ensures.1 in
    rw (p.1, p.2) (λ cap es h. seek_stops _ _ _ _ c.loop-i.invariant c.loop-i-test.true (row 0 0) _ c.next_entry-after.ensures _ c.in_err-key.ensures cap es (c.as_slice-functions.ensures.rows ∙ h))

pub loop-i-preserved : goal.loop-i-preserved
loop-i-preserved c =
    let e : c.match-branch-2.keys.items ≡ c.loop-i.keys.items ++ option_to_list c.in_ok-key.field-0 =
    elim c.match-branch-2.branch [
      | in-Some w ↦ rw (w.keys-is, w.in-Some.is) w.push.ensures.items
      | in_default w ↦ rw (w.keys-is, w.in_default.is) (sym (append-nil c.loop-i.keys.items))
    ] in
    seek_on _ _ _ _ c.loop-i.invariant c.loop-i-test.true (row 0 0) _ c.next_entry-after.ensures c.in_ok-key.field-0 c.in_ok-key.ensures _ e

pub returns-clause-found : goal.returns-clause-found
returns-clause-found c = λ cap es h. seek_ends _ _ _ _ c.loop-i.invariant c.loop-i-test.false cap es (c.as_slice-functions.ensures.rows ∙ h)
