use mathlib.Core.Path.{refl}
use Rattle.obj.proofs.Told.{told_row, told_is}
use Rattle.obj.proofs.outcomes.told_at.Goals as goal

-- `obj::outcomes::told_at` is `told_at` of `rules`. Assumes nothing.
pub returns : goal.returns
returns c = let a = c.args in told_is a.outcomes.now a.code a.key _ _ c.from-r.result c.outcome_of.result refl refl (told_row a.outcomes.now c.as_chunks.result.0.now c.as_chunks.ensures.front _ c.requires.row c.from-r.result c.from-r.ensures) c.outcome_of.ensures
