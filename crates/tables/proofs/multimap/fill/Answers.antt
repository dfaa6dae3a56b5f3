-- Ways on that ascend are put behind one another.
use Rattle.std.proofs.Common.{refl, ◌∙◌, length}
use Rattle.std.proofs.lemmas.List.{length_push}
use Rattle.std.proofs.lemmas.Slice.Zip.{zip_turn, zip_end}
use Rattle.tables.specs.Groups.{way, leaves, goes_to}
use Rattle.tables.proofs.Columns.{pair_next, row_at, row_below, all_rows}
use Rattle.tables.proofs.multimap.fill.Goals as goal

pub loop-from-preserved : goal.loop-from-preserved
loop-from-preserved g c = record {
  rising = c.push.ensures.rising;
  same = λ ways rise few froms tos.
      let t = zip_turn c.args.froms.now c.args.tos.now c.loop-from.yielded c.into_iter-from-iterator.result c.loop-from.from-iterator c.next.new.self _ (cc) (cc) c.loop-from.yielded_by (c.in-Some.field-0-0, c.in-Some.field-0-1) c.in-Some.is c.next.ensures.steps in
      rw length_push
      (pair_next ways c.loop-from.ways.items c.push.new.ways.items g.row.N (length c.loop-from.yielded) (way c.in-Some.field-0-0.now c.in-Some.field-0-1.now) (way 0 0) rise few
      (row_below way leaves goes_to (λ _. refl) ways froms tos _ t.0)
      (row_at way leaves goes_to (λ _. refl) ways froms tos _ _ _ (way 0 0) (t.2 0) (t.3 0))
      (c.loop-from.invariant.same ways rise few froms tos) c.push.ensures.pushed);
}

pub returns-clause-filled : goal.returns-clause-filled
returns-clause-filled g c ways rise few froms tos =
    let t = zip_end c.args.froms.now c.args.tos.now c.loop-from.yielded c.into_iter-from-iterator.result c.loop-from.from-iterator c.next.new.self _ (cc) (cc) c.loop-from.yielded_by c.in-None.is c.next.ensures.steps in
    c.loop-from.invariant.same ways rise few froms tos ∙ all_rows way leaves goes_to (λ _. refl) ways froms tos _ t
