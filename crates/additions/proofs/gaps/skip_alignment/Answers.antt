use Rattle.std.proofs.Common.{◌∙◌}
use Rattle.additions.proofs.Alignment.{over_first, over_on, over_less, over_found}
use Rattle.additions.proofs.gaps.skip_alignment.Goals as goal

pub loop-at-init : goal.loop-at-init
loop-at-init c = over_first _ _ _ _ c.skip_range-at.ensures

pub loop-at-smaller : goal.loop-at-smaller
loop-at-smaller c = over_less _ _ _ _ c.loop-at.invariant _ c.is_zero.ensures c.loop-at-test.true _ c.skip_range-at-in-loop-at.ensures

pub loop-at-preserved : goal.loop-at-preserved
loop-at-preserved c = over_on _ _ _ _ c.loop-at.invariant _ c.is_zero.ensures c.loop-at-test.true _ c.skip_range-at-in-loop-at.ensures

pub returns : goal.returns
returns c = λ cap. c.then_some.ensures ∙ over_found _ _ _ _ c.loop-at.invariant _ c.is_zero.ensures c.loop-at-test.false cap _ c.ends_by.ensures
