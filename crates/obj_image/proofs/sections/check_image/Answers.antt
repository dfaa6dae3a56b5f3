use native.Mathlib.Omega.{arith}
use Rattle.obj_image.proofs.CheckImage.{image_is, image_many, image_broken}
use mathlib.Core.Path.{◌∙◌}
use Rattle.obj_image.proofs.sections.check_image.Goals as goal

-- `obj::sections::check_image` is `check_image` of `rules`. Assumes nothing.
pub returns-in_default : goal.returns-in_default
returns-in_default c = λ l e f. image_broken c.args.sections.now (λ h. omega (arith, c.as_chunks.ensures.back_len, c.in_default.len_at_least)) l e

pub returns-then-few_sections : goal.returns-then-few_sections
returns-then-few_sections c = λ l e f. c.is_image.ensures ∙ image_is c.args.sections.now c.args.bytes.now (omega (arith, c.as_chunks.ensures.back_len, c.in_default-empty.len_below)) c.as_chunks.result.0.now c.as_chunks.ensures.front c.few_sections.result c.few_sections.ensures c.if-few_sections.true l e f

pub returns-else-few_sections : goal.returns-else-few_sections
returns-else-few_sections c = image_many c.args.sections.now c.args.bytes.now (omega (arith, c.as_chunks.ensures.back_len, c.in_default-empty.len_below)) c.as_chunks.result.0.now c.as_chunks.ensures.front c.few_sections.result c.few_sections.ensures c.if-few_sections.false
