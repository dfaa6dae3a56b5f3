-- An address put in where it is not there.
use Rattle.std.proofs.Common.{◌≡◌, ◌<◌, ◌≤◌, length, arith, rules}
use Rattle.std.proofs.lemmas.Bool.Decides.{nat_tests}
use Rattle.rules.specs.Ordered.{self as own}
use Rattle.tables.proofs.Places.{new_at, new_rising, new_full, new_fits, held_fits}
use Rattle.tables.proofs.sets.Set.insert.Goals as goal

pub returns-in-Ok : goal.returns-in-Ok
returns-in-Ok g c = held_fits _ _ _ c.in-Ok.ensures.fits c.in-Ok.ensures.place.1

pub returns-then-is_full : goal.returns-then-is_full
returns-then-is_full g c =
    let full : length c.self.inside.items.items ≡ g.row.N = grind (arith, nat_tests) in
    new_full own c.self.view_is c.args.key _ c.in-Err.ensures.place _ full

pub insert-requires : goal.insert-requires
insert-requires g c =
    let at : c.in-Err.at ≤ length c.self.inside.items.items = new_at own c.self.view_is c.args.key _ c.in-Err.ensures.place in
    search (rules, at)

pub invariant_of-self : goal.invariant_of-self
invariant_of-self g c = new_rising own c.self.view_is c.args.key _ c.in-Err.ensures.place _ c.self.invariant c.insert.ensures.items

pub returns-else-is_full : goal.returns-else-is_full
returns-else-is_full g c =
    let room : length c.self.inside.items.items < g.row.N = grind (arith, nat_tests) in
    new_fits own c.self.view_is c.args.key _ c.in-Err.ensures.place _ _ room c.insert.ensures.items
