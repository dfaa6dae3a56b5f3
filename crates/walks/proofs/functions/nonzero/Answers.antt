use Rattle.std.proofs.Common.{refl}
use borrow.Author.Tests.{ne_eqb}
use Rattle.rules.specs.Choice.{if}
use Rattle.walks.proofs.functions.nonzero.Goals as goal

pub returns-then-address-eq0 : goal.returns-then-address-eq0
unfolding if
returns-then-address-eq0 c = rw (c.if-address-eq0.true) refl

pub returns-else-address-eq0 : goal.returns-else-address-eq0
unfolding if
returns-else-address-eq0 c = rw (ne_eqb _ _ c.if-address-eq0.false) refl
