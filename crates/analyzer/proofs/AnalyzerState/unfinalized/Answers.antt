-- Each that is, in order.
use Rattle.std.proofs.Common.{◌≤◌, length, arith, ap}
use Rattle.std.proofs.lemmas.List.{length_push}
use Rattle.std.proofs.lemmas.Slice.Zip.{zip_turn, zip_end}
use Rattle.analyzer.proofs.Rows.{told_at}
use Rattle.analyzer.proofs.Lookups.{found_next, passed_next, found_all, none_left}
use Rattle.analyzer.proofs.AnalyzerState.unfinalized.Goals as goal

pub push-requires : goal.push-requires
push-requires c =
    let t = zip_turn c.args.self.now.known c.args.self.now.infos.items c.loop-row.yielded c.into_iter-row-iterator.result c.loop-row.row-iterator c.next.new.self _ (cc) (cc) c.loop-row.yielded_by (c.in-Some.row, c.in-Some.info) c.in-Some.is c.next.ensures.steps in
    let few : length c.args.self.now.known ≤ 1024 = omega (arith, ap length c.as_slice.ensures.rows, c.as_slice.ensures.fits) in
    omega (arith, t.0, c.loop-row.invariant.few)

pub loop-row-preserved-then-is_unfinalized : goal.loop-row-preserved-then-is_unfinalized
loop-row-preserved-then-is_unfinalized c =
    let t = zip_turn c.args.self.now.known c.args.self.now.infos.items c.loop-row.yielded c.into_iter-row-iterator.result c.loop-row.row-iterator c.next.new.self _ (cc) (cc) c.loop-row.yielded_by (c.in-Some.row, c.in-Some.info) c.in-Some.is c.next.ensures.steps in
    rw length_push
    (record {
      few = omega (arith, c.push.ensures.len, c.loop-row.invariant.few);
      same = λ cap lists es h.
          let told = told_at h (length c.loop-row.yielded) c.in-Some.row.now c.in-Some.info.now t.0 t.2 t.3 in
          rw c.push.ensures.items (found_next told c.is_unfinalized.result c.is_unfinalized.ensures c.loop-row.entries.items (c.loop-row.invariant.same cap lists es h) c.if-is_unfinalized.true);
    })

pub loop-row-preserved : goal.loop-row-preserved
loop-row-preserved c =
    let t = zip_turn c.args.self.now.known c.args.self.now.infos.items c.loop-row.yielded c.into_iter-row-iterator.result c.loop-row.row-iterator c.next.new.self _ (cc) (cc) c.loop-row.yielded_by (c.in-Some.row, c.in-Some.info) c.in-Some.is c.next.ensures.steps in
    rw length_push
    (record {
      few = omega (arith, c.loop-row.invariant.few);
      same = λ cap lists es h.
          let told = told_at h (length c.loop-row.yielded) c.in-Some.row.now c.in-Some.info.now t.0 t.2 t.3 in
          passed_next told c.is_unfinalized.result c.is_unfinalized.ensures c.loop-row.entries.items (c.loop-row.invariant.same cap lists es h) c.if-is_unfinalized.false;
    })

pub returns : goal.returns
returns c cap lists es h =
    let t = zip_end c.args.self.now.known c.args.self.now.infos.items c.loop-row.yielded c.into_iter-row-iterator.result c.loop-row.row-iterator c.next.new.self _ (cc) (cc) c.loop-row.yielded_by c.in-None.is c.next.ensures.steps in
    found_all es (length c.loop-row.yielded) c.loop-row.entries.items (none_left h _ t) (c.loop-row.invariant.same cap lists es h)
