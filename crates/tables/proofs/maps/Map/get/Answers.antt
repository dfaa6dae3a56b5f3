-- The row with the key, where there is one.
use Rattle.std.proofs.Common.{◌<◌, length, arith, ap}
use Rattle.std.proofs.lemmas.Option.{slice_get-get_or}
use Rattle.tables.specs.Rows.{row, key_of}
use Rattle.tables.proofs.Places.{out_at, row_of_is, row_of_none}
use Rattle.tables.proofs.maps.Map.get.Goals as goal

pub offset_bounds-deref-at : goal.offset_bounds-deref-at
offset_bounds-deref-at g c =
    let at : c.in-Ok.at < length c.self.inside.rows.items = out_at key_of c.self.view_is c.args.key _ c.in-Ok.ensures.place in
    omega (arith, ap length c.deref.ensures.0)

pub bounds-deref-at : goal.bounds-deref-at
bounds-deref-at g c =
    let at : c.in-Ok.at < length c.self.inside.rows.items = out_at key_of c.self.view_is c.args.key _ c.in-Ok.ensures.place in
    omega (arith, ap length c.deref.ensures.0)

pub returns-in-Ok : goal.returns-in-Ok
returns-in-Ok g c =
    let at : c.in-Ok.at < length c.deref.result.now = rw c.deref.ensures.0 (out_at key_of c.self.view_is c.args.key _ c.in-Ok.ensures.place) in
    rw (row_of_is key_of c.args.key c.args.self.now c.in-Ok.ensures.place.1, ← c.in-Ok.ensures.place.0, ← c.self.view_is, ← c.deref.ensures.0, slice_get-get_or c.deref.result.now c.in-Ok.at (row 0 0) at)

pub returns-in-Err : goal.returns-in-Err
returns-in-Err g c = rw (row_of_none key_of c.args.key c.args.self.now c.in-Err.ensures.place.1)
