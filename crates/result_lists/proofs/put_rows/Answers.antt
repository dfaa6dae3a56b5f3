use Rattle.std.proofs.Common.{rules, ◌≡◌, ◌≤◌, ◌*◌, ℕ, List, length, true, false, ◌+◌, ◌-◌, ◌<◌, ◌/◌, ◌%◌, Bool, nat_eq, nat_lt, [], ◌∷◌, ◌++◌, slice_index_or, slice_set, bit_and, bit_or, Fits, w8, w32, w64, Bor, MutBor}
use Rattle.rules.specs.Known.{Entry}
use Rattle.rules.specs.Map.{Capacity}
use Rattle.tables.specs.Rows as tables
use Rattle.analyzer.specs.Table.{Holds, info_of}
use Rattle.result_lists.specs.Rows.{ROW, flags, result_row, rows_of, padded, Results}
use Rattle.std.proofs.Common.{refl, sym, ◌∙◌, arith, length, ap}
use Rattle.result_lists.proofs.Putting.{going_on, going_not, rows_done}
use Rattle.result_lists.proofs.put_rows.Goals.{in-Some, in_default}
use Rattle.result_lists.proofs.put_rows.Goals as goal

-- src/lib.rt:65:5
pub loop-at-init : goal.loop-at-init
loop-at-init c = record { size = refl; done = λ es e i. refl }

-- src/lib.rt:65:5
pub loop-at-preserved : goal.loop-at-preserved
loop-at-preserved c =
    elim c.match-get.branch [
      | in-Some w ↦ going_on _ _ _ _ _ c.loop-at.invariant c.loop-at-test.true w.in-Some.entry.now w.copy_from_slice.new.self _ w.in-Some.ensures.lookup.3.0 w.in-Some.ensures.lookup.3.1 (λ x e f. w.copy_from_slice.ensures.after ∙ w.row.ensures x e f) (omega (arith, w.copy_from_slice.ensures.after)) (omega (arith, c.requires, c.loop-at.auto.rows, ap length c.as_slice-info-items.ensures.value)) w.rows-is c.match-get.auto.rows
      | in_default w ↦ going_not _ _ _ _ _ c.loop-at.invariant c.loop-at-test.true (grind (arith, w.in_default.ensures.lookup.2)) _ w.rows-is
    ]

-- src/lib.rt:58:1
pub returns : goal.returns
returns c room lists es h =
    let n : c.len-past.result ≡ length c.as_slice-info-items.result.now = c.len-past.ensures.value ∙ ap length (sym c.as_slice-info-items.ensures.value) in
    rows_done _ _ _ _ _ _ c.loop-at.invariant c.loop-at-test.false c.len-past.result n (omega (arith, c.requires, c.loop-at.auto.rows, c.len-past.ensures.value)) c.fill.ensures es (c.as_slice-entries.ensures.rows ∙ h.knows) (c.as_slice-info-items.ensures.value ∙ h.infos) c.loop-at.auto.at-end
