use Rattle.std.proofs.lemmas.Result.{err_from_is_err_and}
use Rattle.rounds.proofs.Stored.{walk_fails, walk_stored, walk_set_aside, end_kept, end_is}
use Rattle.rounds.proofs.process.process_function_at.Goals as goal

pub invariant_of-around : goal.invariant_of-around
invariant_of-around c = record { end_is_address = end_kept _ _ c.known_end.ensures }

pub returns-in_err-found : goal.returns-in_err-found
returns-in_err-found c = λ cap es h.
    let p = err_from_is_err_and c.from_residual.result c.from_residual.ensures.1 in
    let e = rw (c.clear.ensures, end_is _ _ _ c.known_end.ensures (c.end_of_entry.ensures cap _ es h)) at (c.in_err-found.ensures es h.knows) in
    rw (p.1, p.2) (walk_fails _ cap _ es _ e)

pub returns-then-found : goal.returns-then-found
returns-then-found c = λ cap es h.
    let e = rw (c.clear.ensures, end_is _ _ _ c.known_end.ensures (c.end_of_entry.ensures cap c.args.lists.now es h)) at (c.in_ok-found.ensures es h.knows) in
    rw (walk_stored _ cap _ es _ _ e c.if-found.true) (c.store_function.ensures cap es h)

pub returns-else-found : goal.returns-else-found
returns-else-found c = λ cap es h.
    let e = rw (c.clear.ensures, end_is _ _ _ c.known_end.ensures (c.end_of_entry.ensures cap c.args.lists.now es h)) at (c.in_ok-found.ensures es h.knows) in
    rw (walk_set_aside _ cap _ es _ _ e c.if-found.false) (c.set_aside.ensures cap _ es h)
