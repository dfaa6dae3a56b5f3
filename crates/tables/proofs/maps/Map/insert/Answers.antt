-- A row put in, or over the one with its key.
use Rattle.std.proofs.Common.{◌≡◌, ◌<◌, ◌≤◌, length, arith, rules, ap}
use Rattle.std.proofs.lemmas.Bool.Decides.{nat_tests}
use Rattle.tables.specs.Rows.{row, key_of}
use Rattle.tables.proofs.Places.{new_at, new_rising, new_full, new_fits, old_at, old_rising, old_fits, row_set}
use Rattle.tables.proofs.maps.Map.insert.Goals as goal

pub offset_bounds-deref_mut-at : goal.offset_bounds-deref_mut-at
offset_bounds-deref_mut-at g c =
    let at : c.in-Ok.at < length c.self.inside.rows.items = old_at key_of c.self.view_is (row c.args.key c.args.value) _ c.in-Ok.ensures.place in
    omega (arith, ap length c.deref_mut.ensures.value)

pub bounds-deref_mut-at : goal.bounds-deref_mut-at
bounds-deref_mut-at g c =
    let at : c.in-Ok.at < length c.self.inside.rows.items = old_at key_of c.self.view_is (row c.args.key c.args.value) _ c.in-Ok.ensures.place in
    omega (arith, ap length c.deref_mut.ensures.value)

pub invariant_of-self : goal.invariant_of-self
invariant_of-self g c = old_rising key_of c.self.view_is (row c.args.key c.args.value) c.in-Ok.at c.in-Ok.ensures.place _ c.self.invariant (row_set _ _ _ _ c.deref_mut.ensures.value)

pub returns-in-Ok : goal.returns-in-Ok
returns-in-Ok g c = old_fits key_of c.self.view_is (row c.args.key c.args.value) c.in-Ok.at c.in-Ok.ensures.place _ _ c.in-Ok.ensures.fits (row_set _ _ _ _ c.deref_mut.ensures.value)

pub returns-then-is_full : goal.returns-then-is_full
returns-then-is_full g c =
    let full : length c.self.inside.rows.items ≡ g.row.N = grind (arith, nat_tests) in
    new_full key_of c.self.view_is (row c.args.key c.args.value) _ c.in-Err.ensures.place _ full

pub insert-requires : goal.insert-requires
insert-requires g c =
    let at : c.in-Err.at ≤ length c.self.inside.rows.items = new_at key_of c.self.view_is (row c.args.key c.args.value) _ c.in-Err.ensures.place in
    search (rules, at)

pub invariant_of-self-in-Err : goal.invariant_of-self-in-Err
invariant_of-self-in-Err g c = new_rising key_of c.self.view_is (row c.args.key c.args.value) _ c.in-Err.ensures.place _ c.self.invariant c.insert.ensures.items

pub returns-else-is_full : goal.returns-else-is_full
returns-else-is_full g c =
    let room : length c.self.inside.rows.items < g.row.N = grind (arith, nat_tests) in
    new_fits key_of c.self.view_is (row c.args.key c.args.value) _ c.in-Err.ensures.place _ _ room c.insert.ensures.items
