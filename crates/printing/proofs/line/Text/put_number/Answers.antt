use Rattle.std.proofs.Common.{refl, arith}
use Rattle.printing.proofs.Digits.{behind_next, behind_all}
use Rattle.printing.proofs.line.Text.put_number.Goals as goal

pub loop-place-init : goal.loop-place-init
loop-place-init c = record { size = refl; low = omega arith; high = omega arith; first = refl; digits = refl }

pub loop-place-preserved : goal.loop-place-preserved
loop-place-preserved c = behind_next c.loop-place.invariant c.loop-place-test.true c.digit.ensures

pub returns : goal.returns
returns c = rw (behind_all c.loop-place.invariant c.loop-place-test.false) at c.put.ensures
