use mathlib.Core.Path.{refl}
use native.Mathlib.Omega.{arith}
use borrow.Author.Rules.{rules}
use Rattle.blocks.proofs.Checks.{found_apart, later_apart, end_apart}
use Rattle.blocks.proofs.first_disconnected_block.Goals as goal

pub loop-next-init : goal.loop-next-init
loop-next-init c = (refl, refl)

pub returns-then-is_apart : goal.returns-then-is_apart
returns-then-is_apart c = found_apart _ _ _ _ _ c.requires.0 c.requires.1 c.loop-next.invariant.0 c.loop-next.invariant.1 _ c.loop-next-test.true c.is_apart.ensures c.if-is_apart.true

pub loop-next-preserved : goal.loop-next-preserved
loop-next-preserved c = (omega arith, later_apart _ _ _ _ _ c.requires.0 c.requires.1 c.loop-next.invariant.0 c.loop-next.invariant.1 _ c.loop-next-test.true c.is_apart.ensures c.if-is_apart.false)

pub returns : goal.returns
returns c = search (rules, end_apart)
