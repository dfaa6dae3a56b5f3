use Rattle.std.proofs.Common.{refl}
use Rattle.obj_info.proofs.Lookups.{none_found, one_found}
use Rattle.std.proofs.Common.{sym}
use Rattle.one_function.proofs.asked.nonzero.Goals as goal

pub returns-then-address-eq0 : goal.returns-then-address-eq0
returns-then-address-eq0 c = none_found _ (sym c.if-address-eq0.true)

pub returns-else-address-eq0 : goal.returns-else-address-eq0
returns-else-address-eq0 c = one_found _ _ refl c.if-address-eq0.false
