use Rattle.std.proofs.Common.{refl}
use Rattle.obj_info.proofs.Lookups.{none_found}
use Rattle.settling.proofs.tests.settles_what_can_be.Goals as goal

-- no end is no number
pub invariant_of-around : goal.invariant_of-around
invariant_of-around g c = record { end_is_address = none_found 0 refl }
