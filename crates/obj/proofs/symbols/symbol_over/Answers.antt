use mathlib.Core.Path.{refl}
use native.Mathlib.Omega.{arith}
use Rattle.obj.proofs.Halving.{addresses_rise, over_outside, over_none, over_short, over_covers}
use Rattle.obj.proofs.symbols.symbol_over.Goals as goal

-- `obj::symbols::symbol_over` is `symbol_over` of `rules`. Assumes nothing.
pub returns-then-target-code : goal.returns-then-target-code
returns-then-target-code c = over_outside c.args.functions.now c.args.code c.args.target c.if-target-code.true

pub count_below-requires : goal.count_below-requires
count_below-requires c = addresses_rise c.args.functions.now c.requires.0 c.as_chunks.result.0.now c.as_chunks.ensures.front c.requires.1

pub returns-in_default : goal.returns-in_default
returns-in_default c = let none = c.in_default.ensures in over_none c.args.functions.now c.args.code c.args.target c.if-target-code.false c.requires.0 c.as_chunks.result.0.now c.as_chunks.ensures.front _ c.count_below.result refl c.count_below.ensures.rank (grind (arith, none))

pub returns-then-low-wide : goal.returns-then-low-wide
returns-then-low-wide c =
    let some = c.in-Some.ensures in
    over_covers c.args.functions.now c.args.code c.args.target c.if-target-code.false c.requires.0 c.as_chunks.result.0.now c.as_chunks.ensures.front _ c.count_below.result refl c.count_below.ensures.rank c.in-Some.last (omega (arith, some)) (omega (arith, some, c.count_below.ensures.bound)) c.from-s.result c.from-s.ensures _ (omega arith) (omega arith)

pub returns-else-low-wide : goal.returns-else-low-wide
returns-else-low-wide c =
    let some = c.in-Some.ensures in
    over_short c.args.functions.now c.args.code c.args.target c.if-target-code.false c.requires.0 c.as_chunks.result.0.now c.as_chunks.ensures.front _ c.count_below.result refl c.count_below.ensures.rank c.in-Some.last (omega (arith, some)) (omega (arith, some, c.count_below.ensures.bound)) c.from-s.result c.from-s.ensures (omega arith)
