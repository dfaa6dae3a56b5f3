use Rattle.std.proofs.Common.{refl}
use Rattle.std.proofs.lemmas.Result.{err_from_is_err_and}
use Rattle.rules.specs.Map.{add_entry, add_entries}
use Rattle.additions.proofs.Each.{going_on, going_stops, going_ends}
use Rattle.additions.proofs.new_functions.add_entries.Goals as goal

pub loop-key-preserved : goal.loop-key-preserved
loop-key-preserved c = λ im. going_on (add_entries im) _ add_entry (λ cap es. refl) (λ cap x xs es. refl) _ _ _ (c.loop-key.invariant im) c.loop-key-test.true 0 _ c.in_ok-add_entry.ensures

pub returns-in_err-add_entry : goal.returns-in_err-add_entry
returns-in_err-add_entry c =
    let p = err_from_is_err_and c.from_residual.result c.from_residual.ensures.1 in
    rw (p.1, p.2) (λ im. going_stops (add_entries im) _ add_entry (λ cap es. refl) (λ cap x xs es. refl) _ _ _ (c.loop-key.invariant im) c.loop-key-test.true 0 _ c.in_err-add_entry.ensures)

pub returns : goal.returns
returns c = λ im. going_ends (add_entries im) _ add_entry (λ cap es. refl) (λ cap x xs es. refl) _ _ _ (c.loop-key.invariant im) c.loop-key-test.false
