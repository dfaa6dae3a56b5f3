use Rattle.std.proofs.lemmas.Result.{err_from_is_err_and}
use Rattle.slices.specs.View.{slices_of}
use Rattle.walks.proofs.Options.{zeroed}
use Rattle.rounds.proofs.Settles.{finalize_fails, refers_fails, store_fails, settled_stored}
use Rattle.rounds.proofs.finalized.keep_settled.Goals as goal

pub returns-in_err-finalize : goal.returns-in_err-finalize
returns-in_err-finalize c = λ cap es before h.
    let p = err_from_is_err_and c.from_residual.result c.from_residual.ensures.1 in
    rw (p.1, p.2) (finalize_fails _ cap _ es before _ _ (c.in_err-finalize.ensures es h.knows))

pub returns-in_err-try_add_functions : goal.returns-in_err-try_add_functions
unfolding slices_of
returns-in_err-try_add_functions c = λ cap es before h.
    let p = err_from_is_err_and c.from_residual-in_err-try_add_functions.result c.from_residual-in_err-try_add_functions.ensures.1 in
    rw (p.1, p.2) (refers_fails _ cap _ es before _ _ (c.in_ok-finalize.ensures es h.knows) _ (rw c.as_slice.ensures.items at (c.in_err-try_add_functions.ensures cap _ es h)))

pub returns-in_err-store : goal.returns-in_err-store
unfolding slices_of
returns-in_err-store c = λ cap es before h.
    let p = err_from_is_err_and c.from_residual-in_err-store.result c.from_residual-in_err-store.ensures.1 in
    let g = rw c.as_slice.ensures.items at (c.in_ok-try_add_functions.ensures cap _ es h) in
    let e = rw (zeroed _ _ c.last_end-end.ensures) at (c.in_err-store.ensures cap g.entries g.holds) in
    rw (p.1, p.2) (store_fails _ cap _ es before _ _ (c.in_ok-finalize.ensures es h.knows) _ g.is _ e)

pub returns : goal.returns
unfolding slices_of
returns c = λ cap es before h.
    let g = rw c.as_slice.ensures.items at (c.in_ok-try_add_functions.ensures cap _ es h) in
    let e = rw (zeroed _ _ c.last_end-end.ensures) at (c.in_ok-store.ensures cap g.entries g.holds) in
    record { entries = e.entries; is = settled_stored _ cap _ es before _ _ (c.in_ok-finalize.ensures es h.knows) _ g.is _ e.is; holds = e.holds }
