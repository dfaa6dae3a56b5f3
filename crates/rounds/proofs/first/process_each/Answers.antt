use Rattle.std.proofs.Common.{refl, sym}
use lib.ListN.{drop_of_length-le}
use Rattle.std.proofs.lemmas.Result.{err_from_is_err_and}
use Rattle.rounds.proofs.Each.{next_key}
use Rattle.rounds.proofs.Given.{walk_fails, walk_on}
use Rattle.rounds.proofs.first.process_each.Goals as goal

pub loop-key-init : goal.loop-key-init
loop-key-init c = λ cap es h. record { entries = es; holds = h; same = refl }

pub returns-in_err-process_function_at : goal.returns-in_err-process_function_at
returns-in_err-process_function_at c = λ cap es h.
    let p = err_from_is_err_and c.from_residual.result c.from_residual.ensures.1 in
    let w = rw (next_key _ _ c.loop-key-test.true) at (c.loop-key.invariant cap es h) in
    rw (p.1, p.2) (walk_fails _ cap _ _ _ _ _ w _ (c.in_err-process_function_at.ensures cap w.entries w.holds))

pub loop-key-preserved : goal.loop-key-preserved
loop-key-preserved c = λ cap es h.
    let w = rw (next_key _ _ c.loop-key-test.true) at (c.loop-key.invariant cap es h) in
    walk_on _ cap _ _ _ _ _ w _ _ (c.in_ok-process_function_at.ensures cap w.entries w.holds)

pub returns : goal.returns
returns c = λ cap es h.
    let w = rw (drop_of_length-le _ c.loop-key-test.false) at (c.loop-key.invariant cap es h) in
    record { entries = w.entries; is = sym w.same; holds = w.holds }
