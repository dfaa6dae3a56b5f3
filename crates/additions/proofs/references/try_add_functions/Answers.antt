use Rattle.std.proofs.Common.{refl}
use Rattle.std.proofs.lemmas.Result.{err_from_is_err_and}
use Rattle.rules.specs.Map.{try_add_function}
use Rattle.obj_info.specs.Info.{image_of}
use Rattle.additions.proofs.Each.{going_on, going_stops, going_ends}
use Rattle.additions.proofs.references.try_add_functions.Goals as goal

pub loop-key-preserved : goal.loop-key-preserved
loop-key-preserved c = going_on _ _ (try_add_function (image_of c.args.obj.now)) (λ cap es. refl) (λ cap x xs es. refl) _ _ _ c.loop-key.invariant c.loop-key-test.true 0 _ c.in_ok-try_add_function.ensures

pub returns-in_err-try_add_function : goal.returns-in_err-try_add_function
returns-in_err-try_add_function c =
    let p = err_from_is_err_and c.from_residual.result c.from_residual.ensures.1 in
    rw (p.1, p.2) (going_stops _ _ (try_add_function (image_of c.args.obj.now)) (λ cap es. refl) (λ cap x xs es. refl) _ _ _ c.loop-key.invariant c.loop-key-test.true 0 _ c.in_err-try_add_function.ensures)

pub returns : goal.returns
returns c = going_ends _ _ (try_add_function (image_of c.args.obj.now)) (λ cap es. refl) (λ cap x xs es. refl) _ _ _ c.loop-key.invariant c.loop-key-test.false
