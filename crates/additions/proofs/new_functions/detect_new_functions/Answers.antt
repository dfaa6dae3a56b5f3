use Rattle.std.proofs.Common.{not, ap, ◌∙◌}
use Rattle.std.proofs.lemmas.Result.{err_from_is_err_and}
use Rattle.obj_info.specs.Info.{image_of}
use Rattle.additions.proofs.Search.{detect_stops, detect_fails, detected, none_found}
use Rattle.additions.proofs.new_functions.detect_new_functions.Goals as goal

pub returns-in_err-keys : goal.returns-in_err-keys
returns-in_err-keys c =
    let p = err_from_is_err_and c.from_residual.result c.from_residual.ensures.1 in
    rw (p.1, p.2) (λ cap lists es h. detect_stops _ cap es _ (c.in_err-keys.ensures.fault cap es h.knows))

pub returns-in_err-add_entries : goal.returns-in_err-add_entries
returns-in_err-add_entries c =
    let p = err_from_is_err_and c.from_residual-in_err-add_entries.result c.from_residual-in_err-add_entries.ensures.1 in
    rw (p.1, p.2) (λ cap lists es h. detect_fails _ cap es _ (c.in_ok-keys.ensures.found cap es h.knows) _ (rw c.deref.ensures.0 at c.in_err-add_entries.ensures (image_of c.args.obj.now) cap lists es h))

pub returns : goal.returns
returns c = λ cap lists es h. detected _ cap es _ (c.in_ok-keys.ensures.found cap es h.knows) _ lists (rw c.deref.ensures.0 at c.in_ok-add_entries.ensures (image_of c.args.obj.now) cap lists es h) _ (ap not (c.is_empty.ensures ∙ none_found _))
