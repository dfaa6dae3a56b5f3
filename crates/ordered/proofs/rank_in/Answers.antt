use native.Mathlib.Omega.{arith}
use Rattle.ordered.proofs.Arrays.{halved_up, halved_down, halved_end}
use Rattle.ordered.proofs.rank_in.Goals as goal

pub loop-lo-init : goal.loop-lo-init
loop-lo-init c = record { order = omega arith; end = omega arith; less = λ k b. absurd (omega arith); more = λ k b b'. absurd (omega arith) }

pub loop-lo-preserved-then-xs-mid : goal.loop-lo-preserved-then-xs-mid
loop-lo-preserved-then-xs-mid c = halved_up _ _ c.requires.0 c.requires.1 _ _ _ _ c.loop-lo.invariant (omega arith) c.if-xs-mid.true

pub loop-lo-preserved : goal.loop-lo-preserved
loop-lo-preserved c = halved_down _ _ c.requires.0 c.requires.1 _ _ _ _ c.loop-lo.invariant (omega arith) (omega arith) c.if-xs-mid.false

pub returns : goal.returns
returns c = halved_end _ _ c.requires.0 c.requires.1 _ _ _ c.loop-lo.invariant c.loop-lo-test.false
