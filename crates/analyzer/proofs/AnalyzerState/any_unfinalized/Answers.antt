-- Up to the first that is.
use Rattle.std.proofs.Common.{length, sym, ap, ◌∙◌}
use Rattle.std.proofs.lemmas.List.{length_push}
use Rattle.std.proofs.lemmas.Slice.Zip.{zip_turn, zip_end}
use Rattle.rules.specs.Choice.{any}
use Rattle.rules.specs.Known.{is_unfinalized}
use Rattle.analyzer.proofs.Rows.{told_at}
use Rattle.analyzer.proofs.Lookups.{unfinalized_here, finalized_next, none_left}
use Rattle.analyzer.proofs.AnalyzerState.any_unfinalized.Goals as goal

pub returns-then-is_unfinalized : goal.returns-then-is_unfinalized
returns-then-is_unfinalized c cap lists es h =
    let t = zip_turn c.args.self.now.known c.args.self.now.infos.items c.loop-entry.yielded c.into_iter-entry-iterator.result c.loop-entry.entry-iterator c.next.new.self _ (cc) (cc) c.loop-entry.yielded_by (c.in-Some.entry, c.in-Some.info) c.in-Some.is c.next.ensures.steps in
    let told = told_at h (length c.loop-entry.yielded) c.in-Some.entry.now c.in-Some.info.now t.0 t.2 t.3 in
    unfinalized_here told c.is_unfinalized.result c.is_unfinalized.ensures (c.loop-entry.invariant cap lists es h) c.if-is_unfinalized.true

pub loop-entry-preserved : goal.loop-entry-preserved
loop-entry-preserved c cap lists es h =
    let t = zip_turn c.args.self.now.known c.args.self.now.infos.items c.loop-entry.yielded c.into_iter-entry-iterator.result c.loop-entry.entry-iterator c.next.new.self _ (cc) (cc) c.loop-entry.yielded_by (c.in-Some.entry, c.in-Some.info) c.in-Some.is c.next.ensures.steps in
    let told = told_at h (length c.loop-entry.yielded) c.in-Some.entry.now c.in-Some.info.now t.0 t.2 t.3 in
    rw length_push (finalized_next told c.is_unfinalized.result c.is_unfinalized.ensures (c.loop-entry.invariant cap lists es h) c.if-is_unfinalized.false)

pub returns : goal.returns
returns c cap lists es h =
    let t = zip_end c.args.self.now.known c.args.self.now.infos.items c.loop-entry.yielded c.into_iter-entry-iterator.result c.loop-entry.entry-iterator c.next.new.self _ (cc) (cc) c.loop-entry.yielded_by c.in-None.is c.next.ensures.steps in
    sym (ap (any is_unfinalized) (none_left h _ t)) ∙ c.loop-entry.invariant cap lists es h
