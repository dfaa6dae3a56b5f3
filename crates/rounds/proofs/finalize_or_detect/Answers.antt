use Rattle.std.proofs.lemmas.Result.{err_from_is_err_and}
use Rattle.rounds.proofs.Steps.{turn_fails, turn_finalizes, turn_searches}
use Rattle.rounds.proofs.finalize_or_detect.Goals as goal

pub returns-in_err-finalized : goal.returns-in_err-finalized
returns-in_err-finalized c = λ cap es h.
    let p = err_from_is_err_and c.from_residual.result c.from_residual.ensures.1 in
    rw (p.1, p.2) (turn_fails _ cap es _ (c.in_err-finalized.ensures cap es h))

pub returns-then-finalized : goal.returns-then-finalized
returns-then-finalized c = λ cap es h.
    let g = c.in_ok-finalized.ensures cap es h in
    record { entries = g.entries; is = turn_finalizes _ cap es _ _ g.is c.if-finalized.true; holds = g.holds }

pub returns : goal.returns
returns c = λ cap es h.
    let g = c.in_ok-finalized.ensures cap es h in
    rw (turn_searches _ cap es _ _ g.is c.if-finalized.false) (c.detect_new_functions.ensures cap _ g.entries g.holds)
