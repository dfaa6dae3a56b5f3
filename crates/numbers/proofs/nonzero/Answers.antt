-- By the number that is there.
use Rattle.std.proofs.Common.{refl, sym}
use Rattle.slices.proofs.Views.{none_zero, some_value}
use Rattle.numbers.proofs.nonzero.Goals as goal

pub returns-then-number-eq0 : goal.returns-then-number-eq0
returns-then-number-eq0 c = rw c.in-Some.is (none_zero _ (sym c.if-number-eq0.true))

pub returns-else-number-eq0 : goal.returns-else-number-eq0
returns-else-number-eq0 c = rw c.in-Some.is (some_value _ _ refl c.if-number-eq0.false)

pub returns-in-None : goal.returns-in-None
returns-in-None c = rw c.in-None.is (none_zero 0 refl)
