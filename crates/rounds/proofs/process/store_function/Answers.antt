use Rattle.std.proofs.Common.{sym, ◌∙◌}
use Rattle.std.proofs.lemmas.Result.{err_from_is_err_and}
use Rattle.slices.specs.View.{slices_of}
use Rattle.rounds.proofs.Stored.{function_fails, function_final, function_stored}
use Rattle.rounds.proofs.process.store_function.Goals as goal

pub returns-in_err-try_add_functions : goal.returns-in_err-try_add_functions
unfolding slices_of
returns-in_err-try_add_functions c = λ cap es h.
    let p = err_from_is_err_and c.from_residual.result c.from_residual.ensures.1 in
    rw (p.1, p.2) (function_fails _ cap _ es _ _ (rw c.as_slice.ensures.items at (c.in_err-try_add_functions.ensures cap _ es h)))

pub returns-then-is_empty : goal.returns-then-is_empty
unfolding slices_of
returns-then-is_empty c = λ cap es h.
    let g = rw c.as_slice.ensures.items at (c.in_ok-try_add_functions.ensures cap _ es h) in
    rw (function_final _ cap c.args.key es (slices_of c.args.slices.now) _ g.is (sym c.if-is_empty.true ∙ c.is_empty.ensures)) (c.store_final.ensures cap g.entries g.holds)

pub returns : goal.returns
unfolding slices_of
returns c = λ cap es h.
    let g = rw c.as_slice.ensures.items at (c.in_ok-try_add_functions.ensures cap _ es h) in
    rw (function_stored _ cap c.args.key es (slices_of c.args.slices.now) _ g.is (sym c.if-is_empty.false ∙ c.is_empty.ensures)) (c.store.ensures cap g.entries g.holds)
