use Rattle.std.proofs.Common.{refl, ap, ◌∙◌}
use Rattle.std.proofs.lemmas.Result.{err_from_is_err_and}
use Rattle.rules.specs.Step.{Walk}
use Rattle.rules.specs.Analyze.{analyze}
use Rattle.walks.specs.Around.{around_of}
use Rattle.one_function.proofs.Stored.{kept_fault, kept_ok}
use Rattle.one_function.proofs.walk.Goals as goal

pub returns-in_err-found : goal.returns-in_err-found
returns-in_err-found c = λ es knows.
    let p = err_from_is_err_and c.from_residual.result c.from_residual.ensures.1 in
    let walked = c.in_err-found.ensures es knows ∙ ap (λ (w : Walk). analyze (around_of c.args.around.now es) c.args.around.now.start w.slices) c.new-walk.ensures in
    rw (p.1, p.2) (kept_fault _ _ _ _ walked refl (c.fill.ensures.after (λ y e. e)))

pub returns : goal.returns
returns c = λ es knows.
    let walked = c.in_ok-found.ensures es knows ∙ ap (λ (w : Walk). analyze (around_of c.args.around.now es) c.args.around.now.start w.slices) c.new-walk.ensures in
    kept_ok _ _ _ _ walked (rw c.fill.ensures.len at c.store.ensures)
