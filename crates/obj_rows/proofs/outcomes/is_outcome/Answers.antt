use native.Mathlib.Omega.{arith}
use Rattle.obj_image.specs.Lent.{seen}
use Rattle.obj_rows.proofs.OutcomeRows.{number_small, outcome_is, no_kind}
use Rattle.obj_rows.proofs.outcomes.is_outcome.Goals as goal

-- `obj::outcomes::is_outcome` is `is_outcome` of `rules`. Assumes nothing.
pub returns-in-Ok : goal.returns-in-Ok
returns-in-Ok c = let is = c.in-Ok.ensures in outcome_is (seen c.args.sections.now) c.args.r _ (omega (arith, number_small c.in-Ok.kind, is)) c.fits_kind.ensures

pub returns-in-Err : goal.returns-in-Err
returns-in-Err c = let is = c.in-Err.ensures in no_kind (seen c.args.sections.now) c.args.r is.1
