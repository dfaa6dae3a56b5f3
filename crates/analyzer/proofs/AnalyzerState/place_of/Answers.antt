-- It is there already, or it is put in.
use Rattle.std.proofs.Common.{arith, sym, ◌∙◌}
use Rattle.std.proofs.lemmas.Result.{err_from_is_err_and}
use Rattle.analyzer.proofs.Rows.{found_in, place_is, there_is, infos_count}
use Rattle.analyzer.proofs.Adding.{already, stands}
use Rattle.analyzer.proofs.AnalyzerState.place_of.Goals as goal

pub returns-then-at-len-clause-placed : goal.returns-then-at-len-clause-placed
returns-then-at-len-clause-placed c cap lists es h = let p = found_in h c.args.key c.in-Ok.at c.in-Ok.ensures.place in already h c.args.key c.in-Ok.at p.0 p.1

pub returns-else-at-len-clause-placed : goal.returns-else-at-len-clause-placed
returns-else-at-len-clause-placed c cap lists es h = absurd (omega (arith, (found_in h c.args.key c.in-Ok.at c.in-Ok.ensures.place).2, infos_count h))

pub returns-in_err-insert-in-Err-clause-placed : goal.returns-in_err-insert-in-Err-clause-placed
returns-in_err-insert-in-Err-clause-placed c cap lists es h =
    let p = err_from_is_err_and c.from_residual.result c.from_residual.ensures.1 in
    rw (p.1, p.2)
    (c.in_err-insert-in-Err.ensures.told cap lists es h (c.in-Err.ensures.place.0 ∙ place_is h c.args.key) (sym (there_is h c.args.key) ∙ c.in-Err.ensures.place.1))

pub returns-in_ok-insert-in-Err-clause-placed : goal.returns-in_ok-insert-in-Err-clause-placed
returns-in_ok-insert-in-Err-clause-placed c cap lists es h =
    let place = c.in-Err.ensures.place.0 ∙ place_is h c.args.key in
    let miss = sym (there_is h c.args.key) ∙ c.in-Err.ensures.place.1 in
    stands es c.args.key c.in-Err.at miss place (c.in_ok-insert-in-Err.ensures.told cap lists es h place miss)
