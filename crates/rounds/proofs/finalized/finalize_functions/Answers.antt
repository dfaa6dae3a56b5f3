use Rattle.std.proofs.Common.{◌∙◌}
use lib.ListN.{drop_of_length-le}
use Rattle.std.proofs.lemmas.Result.{err_from_is_err_and}
use Rattle.rounds.proofs.Each.{next_key, each_first, each_fails, each_on, each_ends}
use Rattle.rounds.proofs.finalized.finalize_functions.Goals as goal

pub loop-key-init : goal.loop-key-init
loop-key-init c = λ cap es h. each_first _ cap _ es _ _ _ h (c.as_slice-key-items.ensures.value ∙ c.put_unfinalized.ensures cap _ es h)

pub returns-in_err-changed : goal.returns-in_err-changed
returns-in_err-changed c = λ cap es h.
    let p = err_from_is_err_and c.from_residual.result c.from_residual.ensures.1 in
    let w = rw (next_key _ _ c.loop-key-test.true) at (c.loop-key.invariant cap es h) in
    rw (p.1, p.2) (each_fails _ cap _ _ _ _ _ _ _ w _ (c.in_err-changed.ensures cap w.entries c.loop-key.changed w.holds))

pub loop-key-preserved : goal.loop-key-preserved
loop-key-preserved c = λ cap es h.
    let w = rw (next_key _ _ c.loop-key-test.true) at (c.loop-key.invariant cap es h) in
    each_on _ cap _ _ _ _ _ _ _ w _ _ _ (c.in_ok-changed.ensures cap w.entries c.loop-key.changed w.holds)

pub returns : goal.returns
returns c = λ cap es h.
    each_ends _ cap _ _ _ _ _ (rw (drop_of_length-le _ c.loop-key-test.false) at (c.loop-key.invariant cap es h))
