use Rattle.std.proofs.Common.{true, sym, ◌∙◌}
use Rattle.std.proofs.lemmas.Result.{err_from_is_err_and}
use Rattle.rounds.proofs.Steps.{step_turns, walk_fails, step_walks}
use Rattle.rounds.proofs.process_step.Goals as goal

pub returns-in_err-process_function_at-in-Some : goal.returns-in_err-process_function_at-in-Some
returns-in_err-process_function_at-in-Some c = λ cap es h.
    let p = err_from_is_err_and c.from_residual.result c.from_residual.ensures.1 in
    rw (p.1, p.2) (walk_fails _ cap es true _ (sym c.in-Some.is ∙ c.first_unbounded_function.ensures cap c.args.lists.now es h) _ (c.in_err-process_function_at-in-Some.ensures cap es h))

pub returns-in_ok-process_function_at-in-Some : goal.returns-in_ok-process_function_at-in-Some
returns-in_ok-process_function_at-in-Some c = λ cap es h.
    let g = c.in_ok-process_function_at-in-Some.ensures cap es h in
    record { entries = g.entries; is = step_walks _ cap es true _ (sym c.in-Some.is ∙ c.first_unbounded_function.ensures cap c.args.lists.now es h) _ g.is; holds = g.holds }

pub returns-in-None : goal.returns-in-None
returns-in-None c = λ cap es h.
    rw (step_turns _ cap es true (sym c.in-None.is ∙ c.first_unbounded_function.ensures cap c.args.lists.now es h)) (c.finalize_or_detect.ensures cap es h)
