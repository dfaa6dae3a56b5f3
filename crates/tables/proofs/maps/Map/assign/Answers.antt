-- Rows that ascend are put behind one another.
use Rattle.std.proofs.Common.{refl, ap, ◌∙◌, length}
use Rattle.std.proofs.lemmas.List.{length_push}
use Rattle.std.proofs.lemmas.Slice.Zip.{zip_turn, zip_end}
use Rattle.rules.specs.Choice.{limited}
use Rattle.rules.specs.Ordered.{put}
use Rattle.tables.specs.Rows.{row, key_of, value_of}
use Rattle.tables.proofs.Columns.{put_next, row_at, row_below, all_rows}
use Rattle.tables.proofs.maps.Map.assign.Goals as goal

pub loop-key-preserved : goal.loop-key-preserved
loop-key-preserved g c rows rise few keys values =
    let t = zip_turn c.args.keys.now c.args.values.now c.loop-key.yielded c.into_iter-key-iterator.result c.loop-key.key-iterator c.next.new.self _ (cc) (cc) c.loop-key.yielded_by (c.in-Some.field-0-0, c.in-Some.field-0-1) c.in-Some.is c.next.ensures.steps in
    rw length_push
    (put_next key_of rows _ g.row.N (length c.loop-key.yielded) (row 0 0) (row c.in-Some.field-0-0.now c.in-Some.field-0-1.now) c.insert-fits.result rise few (row_below row key_of value_of (λ _. refl) rows keys values _ t.0)
    (row_at row key_of value_of (λ _. refl) rows keys values _ _ _ (row 0 0) (t.2 0) (t.3 0))
    (c.insert-fits.ensures ∙ ap (λ l. limited g.row.N (put key_of (row c.in-Some.field-0-0.now c.in-Some.field-0-1.now) l)) (c.loop-key.invariant rows rise few keys values)))

pub returns : goal.returns
returns g c rows rise few keys values =
    let t = zip_end c.args.keys.now c.args.values.now c.loop-key.yielded c.into_iter-key-iterator.result c.loop-key.key-iterator c.next.new.self _ (cc) (cc) c.loop-key.yielded_by c.in-None.is c.next.ensures.steps in
    c.loop-key.invariant rows rise few keys values ∙ all_rows row key_of value_of (λ _. refl) rows keys values _ t
