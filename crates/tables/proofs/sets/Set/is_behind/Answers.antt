use Rattle.std.proofs.Common.{sym, arith}
use Rattle.std.proofs.lemmas.Bool.Decides.{nat_tests}
use Rattle.rules.specs.Ordered.{self as own}
use Rattle.tables.proofs.Places.{behind_last}
use Rattle.tables.proofs.sets.Set.is_behind.Goals as goal

pub returns-in-Some : goal.returns-in-Some
returns-in-Some g c h =
    rw (← c.self.view_is, ← c.deref.ensures.0)
    (behind_last own _ c.args.key c.deref.result.now (rw c.deref.ensures.0 c.self.invariant) (sym c.in-Some.ensures.value) (grind (arith, nat_tests, h)))
