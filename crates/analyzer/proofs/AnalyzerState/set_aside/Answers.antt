-- The entry that stands there then, analyzed and without an end.
use Rattle.std.proofs.Common.{sym, refl}
use Rattle.std.proofs.lemmas.Result.{err_from_is_err_and}
use Rattle.walks.proofs.Steps.{after_err}
use Rattle.rules.specs.Map.{set_aside}
use Rattle.analyzer.proofs.Changing.{aside_told}
use Rattle.analyzer.proofs.AnalyzerState.set_aside.Goals as goal

pub returns-in_err-at : goal.returns-in_err-at
unfolding set_aside
returns-in_err-at c cap lists es h =
    let p = err_from_is_err_and c.from_residual.result c.from_residual.ensures.1 in
    rw (p.1, p.2) (after_err _ (sym (c.in_err-at.ensures.placed cap lists es h)))

pub returns : goal.returns
returns c cap lists es h =
    aside_told es (c.in_ok-at.ensures.placed cap lists es h) c.deref_mut.result.now _ c.insert.result c.insert.ensures refl c.deref_mut.ensures.value refl
