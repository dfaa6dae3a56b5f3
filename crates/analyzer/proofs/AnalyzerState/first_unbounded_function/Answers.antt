-- Up to the first that is not analyzed.
use Rattle.std.proofs.Common.{length, sym, ap, ◌∙◌}
use Rattle.std.proofs.lemmas.List.{length_push}
use Rattle.std.proofs.lemmas.Slice.Zip.{zip_turn, zip_end}
use Rattle.obj_info.specs.Info.{some_nonzero}
use Rattle.rules.specs.Map.{first_unbounded_function}
use Rattle.slices.proofs.Views.{none_zero}
use Rattle.analyzer.proofs.Rows.{told_at}
use Rattle.analyzer.proofs.Lookups.{unbounded_here, bounded_next, none_left}
use Rattle.analyzer.proofs.AnalyzerState.first_unbounded_function.Goals as goal

pub returns-then-not-info : goal.returns-then-not-info
returns-then-not-info c cap lists es h =
    let t = zip_turn c.args.self.now.known c.args.self.now.infos.items c.loop-row.yielded c.into_iter-row-iterator.result c.loop-row.row-iterator c.next.new.self _ (cc) (cc) c.loop-row.yielded_by (c.in-Some.row, c.in-Some.info) c.in-Some.is c.next.ensures.steps in
    let told = told_at h (length c.loop-row.yielded) c.in-Some.row.now c.in-Some.info.now t.0 t.2 t.3 in
    c.nonzero.ensures ∙ ap some_nonzero (unbounded_here told (c.loop-row.invariant cap lists es h) c.if-not-info.true)

pub loop-row-preserved : goal.loop-row-preserved
loop-row-preserved c cap lists es h =
    let t = zip_turn c.args.self.now.known c.args.self.now.infos.items c.loop-row.yielded c.into_iter-row-iterator.result c.loop-row.row-iterator c.next.new.self _ (cc) (cc) c.loop-row.yielded_by (c.in-Some.row, c.in-Some.info) c.in-Some.is c.next.ensures.steps in
    let told = told_at h (length c.loop-row.yielded) c.in-Some.row.now c.in-Some.info.now t.0 t.2 t.3 in
    rw length_push (bounded_next told (c.loop-row.invariant cap lists es h) c.if-not-info.false)

pub returns : goal.returns
returns c cap lists es h =
    let t = zip_end c.args.self.now.known c.args.self.now.infos.items c.loop-row.yielded c.into_iter-row-iterator.result c.loop-row.row-iterator c.next.new.self _ (cc) (cc) c.loop-row.yielded_by c.in-None.is c.next.ensures.steps in
    none_zero _ (sym (ap first_unbounded_function (none_left h _ t)) ∙ c.loop-row.invariant cap lists es h)
