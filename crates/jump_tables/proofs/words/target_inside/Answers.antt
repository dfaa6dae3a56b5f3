use Rattle.std.proofs.Common.{◌∙◌}
use Rattle.jump_tables.proofs.Readings.{outside, target_is}
use Rattle.jump_tables.proofs.words.target_inside.Goals as goal

pub returns-in_err-target : goal.returns-in_err-target
returns-in_err-target c = rw c.from_residual.ensures (outside _ _ _ _ c.in_err-target.ensures.value)

pub returns : goal.returns
returns c = c.then_some.ensures ∙ target_is _ _ _ _ _ c.in_ok-target.ensures.value _ c.is_inside.ensures
