-- The numbers in the place of those that the entry had, and what is told of it.
use Rattle.std.proofs.Common.{sym, ap, refl, ◌∙◌}
use Rattle.std.proofs.lemmas.Result.{err_from_is_err_and}
use Rattle.walks.proofs.Steps.{after_err}
use Rattle.rules.specs.Map.{store}
use Rattle.numbers.specs.Stored.{header_len}
use Rattle.numbers.proofs.Columns.{numbers_long}
use Rattle.slices.specs.View.{slices_of}
use Rattle.slices.specs.Some.{or_zero}
use Rattle.tables.specs.Rows.{row, key_of}
use Rattle.rules.specs.Choice.{limited}
use Rattle.rules.specs.Ordered.{put}
use Rattle.analyzer.proofs.Changing.{or_zero_is}
use Rattle.analyzer.proofs.Storing.{spans, stored_full, stored_told}
use Rattle.analyzer.proofs.AnalyzerState.store.Goals as goal

pub returns-in_err-at : goal.returns-in_err-at
unfolding store
returns-in_err-at c cap es h =
    let p = err_from_is_err_and c.from_residual.result c.from_residual.ensures.1 in
    rw (p.1, p.2) (after_err _ (sym (c.in_err-at.ensures.placed cap c.args.lists.now es h)))

pub replace-requires-clause-count : goal.replace-requires-clause-count
replace-requires-clause-count c = c.len-2.ensures.value ∙ ap header_len c.of-header.ensures.header ∙ sym (numbers_long (slices_of c.args.slices.now))

pub returns-in_err-replace : goal.returns-in_err-replace
returns-in_err-replace c cap es h =
    let p = err_from_is_err_and c.from_residual-in_err-replace.result c.from_residual-in_err-replace.ensures.1 in
    let st = c.in_ok-at.ensures.placed cap c.args.lists.now es h in
    let span = spans es st (slices_of c.args.slices.now) (or_zero c.args.end) c.deref.result.now c.deref-2.result.now c.deref-3.result.now c.deref.ensures.0 c.deref-2.ensures.0 c.deref-3.ensures.0 c.total_len-from.result c.len.result c.total_len.result c.total_len-from.ensures.value c.len.ensures.value c.total_len.ensures.value in
    rw (p.1, p.2) (stored_full es st (slices_of c.args.slices.now) (or_zero c.args.end) _ _ _ span.0 span.1 span.2 c.in_err-replace.field-0.0 c.in_err-replace.ensures)

pub returns : goal.returns
returns c cap es h =
    let st = c.in_ok-at.ensures.placed cap c.args.lists.now es h in
    let span = spans es st (slices_of c.args.slices.now) (or_zero c.args.end) c.deref.result.now c.deref-2.result.now c.deref-3.result.now c.deref.ensures.0 c.deref-2.ensures.0 c.deref-3.ensures.0 c.total_len-from.result c.len.result c.total_len.result c.total_len-from.ensures.value c.len.ensures.value c.total_len.ensures.value in
    stored_told es st (slices_of c.args.slices.now) (or_zero c.args.end) _ _ _ span.0 span.1 span.2 c.replace.new.lists c.in_ok-replace.ensures c.of-header.ensures.right c.of-header.result c.of-header.ensures.header c.replace.auto.lists c.deref_mut.result.now _ c.insert.result
    (c.insert.ensures ∙ ap (λ end. limited 1024 (put key_of (row c.args.key end) c.place_of.new.self.known)) (c.unwrap_or.ensures ∙ or_zero_is c.args.end)) refl c.deref_mut.ensures.value refl
