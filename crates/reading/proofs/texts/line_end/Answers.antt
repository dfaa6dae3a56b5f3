use Rattle.std.proofs.Common.{◌≡◌, length, arith}
use Rattle.reading.proofs.Cutting.{within_start, within_next, ends_here, ends_last}
use Rattle.reading.proofs.texts.line_end.Goals as goal

pub loop-i-init : goal.loop-i-init
loop-i-init c = within_start _ _ c.requires

pub returns-then-text-i-eq10 : goal.returns-then-text-i-eq10
returns-then-text-i-eq10 c = ends_here _ _ c.requires _ c.loop-i.invariant c.loop-i-test.true c.if-text-i-eq10.true

pub loop-i-preserved : goal.loop-i-preserved
loop-i-preserved c = within_next _ _ c.requires _ c.loop-i.invariant c.loop-i-test.true c.if-text-i-eq10.false

pub returns : goal.returns
returns c = let e : c.loop-i.i ≡ length c.args.text.now = omega (arith, c.loop-i.invariant.high) in rw e at (ends_last _ _ c.requires _ c.loop-i.invariant c.loop-i-test.false)
