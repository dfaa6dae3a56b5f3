use native.Mathlib.Omega.{arith}
use Rattle.obj_rows.proofs.SkipHalving.{firsts_rise, none_begun, last_holds, last_fails}
use Rattle.obj_rows.proofs.skips.skip_range.Goals as goal

-- `obj::skips::skip_range` is `skip_range` of `rules`. Assumes nothing.
pub starts_by-requires : goal.starts_by-requires
starts_by-requires c = firsts_rise c.args.skips.now c.requires c.as_chunks.result.0.now c.as_chunks.ensures.front

pub returns-in_default : goal.returns-in_default
returns-in_default c = let none = c.in_default.ensures in none_begun c.args.skips.now c.requires c.as_chunks.result.0.now c.as_chunks.ensures.front c.args.a c.starts_by.result c.starts_by.ensures.rank (grind (arith, none))

pub returns-then-in_range : goal.returns-then-in_range
returns-then-in_range c =
    let some = c.in-Some.ensures in
    last_holds c.args.skips.now c.requires c.as_chunks.result.0.now c.as_chunks.ensures.front c.args.a c.starts_by.result c.starts_by.ensures.rank c.in-Some.last (omega (arith, some)) (omega (arith, some, c.starts_by.ensures.bound)) c.from-r.result c.from-r.ensures c.in_range.result c.in_range.ensures c.if-in_range.true

pub returns-else-in_range : goal.returns-else-in_range
returns-else-in_range c =
    let some = c.in-Some.ensures in
    last_fails c.args.skips.now c.requires c.as_chunks.result.0.now c.as_chunks.ensures.front c.args.a c.starts_by.result c.starts_by.ensures.rank c.in-Some.last (omega (arith, some)) (omega (arith, some, c.starts_by.ensures.bound)) c.from-r.result c.from-r.ensures c.in_range.result c.in_range.ensures c.if-in_range.false
