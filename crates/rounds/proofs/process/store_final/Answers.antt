use Rattle.std.proofs.lemmas.Result.{err_from_is_err_and}
use Rattle.walks.proofs.Options.{zeroed}
use Rattle.rounds.proofs.Stored.{final_fails, final_stored}
use Rattle.rounds.proofs.process.store_final.Goals as goal

pub returns-in_err-finalize : goal.returns-in_err-finalize
returns-in_err-finalize c = λ cap es h.
    let p = err_from_is_err_and c.from_residual.result c.from_residual.ensures.1 in
    rw (p.1, p.2) (final_fails _ cap _ es _ _ (c.in_err-finalize.ensures es h.knows))

pub returns : goal.returns
returns c = λ cap es h.
    rw (final_stored _ cap c.args.key es _ _ (c.in_ok-finalize.ensures es h.knows), ← zeroed _ _ c.last_end-end.ensures) (c.store.ensures cap es h)
