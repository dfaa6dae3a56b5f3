use Rattle.image.proofs.Parts.{few_numbers, part_inside, part_outside, whole_outside}
use native.Mathlib.Omega.{arith}
use Rattle.image.proofs.part.Goals as goal

pub overflow_mul-b : goal.overflow_mul-b
overflow_mul-b c = omega (arith, few_numbers c.head.result _ c.head.ensures.1 c.requires.1)

pub overflow_add-b : goal.overflow_add-b
overflow_add-b c = omega (arith, few_numbers c.head.result _ c.head.ensures.1 c.requires.1)

pub returns-then-b-image : goal.returns-then-b-image
returns-then-b-image c = part_inside _ _ _ _ _ c.head-a.ensures.0 c.head.ensures.0 c.if-b-image.true

pub slice_bounds-result-end-2 : goal.slice_bounds-result-end-2
slice_bounds-result-end-2 c = whole_outside _ _ _ _ _ c.head-a.ensures.0 c.head.ensures.0 c.if-b-image.false

pub returns : goal.returns
returns c = part_outside _ _ _ _ _ c.head-a.ensures.0 c.head.ensures.0 c.if-b-image.false
