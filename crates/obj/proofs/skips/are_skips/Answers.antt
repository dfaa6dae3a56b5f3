use native.Mathlib.Omega.{arith}
use Rattle.obj_image.specs.Lent.{seen}
use Rattle.obj_rows.proofs.SkipRows.{skips_are, skips_broken}
use Rattle.obj.proofs.skips.are_skips.Goals as goal

-- `obj::skips::are_skips` is `are_skips` of `rules`. Assumes nothing.
pub returns-in_default : goal.returns-in_default
returns-in_default c = skips_broken (seen c.args.sections.now) c.args.skips.now (λ h. omega (arith, c.as_chunks.ensures.back_len, c.in_default.len_at_least))

pub returns : goal.returns
returns c = skips_are (seen c.args.sections.now) c.args.skips.now (omega (arith, c.as_chunks.ensures.back_len, c.in_default-empty.len_below)) c.as_chunks.result.0.now c.as_chunks.ensures.front c.all_skips.result c.skips_ascend.result c.all_skips.ensures c.skips_ascend.ensures
