-- The end of the entry that stands there then.
use Rattle.std.proofs.Common.{sym, refl}
use Rattle.std.proofs.lemmas.Result.{err_from_is_err_and}
use Rattle.walks.proofs.Steps.{after_err}
use Rattle.analyzer.specs.Told.{end_set}
use Rattle.analyzer.proofs.Changing.{end_told, or_zero_is}
use Rattle.analyzer.proofs.AnalyzerState.set_end.Goals as goal

pub returns-in_err-place_of : goal.returns-in_err-place_of
unfolding end_set
returns-in_err-place_of c cap lists es h =
    let p = err_from_is_err_and c.from_residual.result c.from_residual.ensures.1 in
    rw (p.1, p.2) (after_err _ (sym (c.in_err-place_of.ensures.placed cap lists es h)))

pub returns : goal.returns
returns c cap lists es h =
    rw (← or_zero_is c.args.end, ← c.unwrap_or.ensures) (end_told es (c.in_ok-place_of.ensures.placed cap lists es h) _ _ c.insert.result c.insert.ensures refl refl)
