use Rattle.blocks.proofs.Adds.{Known, room_looked, reached, added_cut, added_held, added_open, added_full}
use Rattle.blocks.proofs.Rows.{starts_rise, place_ends}
use borrow.Author.Rules.{rules}
use Rattle.blocks.proofs.add_block_start.Goals as goal

pub find-f-requires : goal.find-f-requires
find-f-requires c = search (rules, starts_rise)

pub before_place-end-requires : goal.before_place-end-requires
before_place-end-requires c = place_ends _ _ _ _ c.requires.table _ c.find-f.ensures.place

pub cut_at-count-requires : goal.cut_at-count-requires
cut_at-count-requires c = let k : Known c.args.len c.args.room c.args.addr c.find-f.result c.before_place-end.result c.has_room.result c.args.ss.now c.args.es.now = record { table = c.requires.table; fits = c.requires.room; place = c.find-f.ensures; end_is = c.before_place-end.ensures; room_is = c.has_room.ensures } in
    reached k c.if-has_room.true c.if-addr-end.true

pub returns-then-addr-end : goal.returns-then-addr-end
returns-then-addr-end c = let k : Known c.args.len c.args.room c.args.addr c.find-f.result c.before_place-end.result c.has_room.result c.args.ss.now c.args.es.now = record { table = c.requires.table; fits = c.requires.room; place = c.find-f.ensures; end_is = c.before_place-end.ensures; room_is = c.has_room.ensures } in
    added_cut k _ _ _ c.if-has_room.true c.if-addr-end.true c.cut_at-count.ensures

pub returns-then-f : goal.returns-then-f
returns-then-f c = let k : Known c.args.len c.args.room c.args.addr c.find-f.result c.before_place-end.result c.has_room.result c.args.ss.now c.args.es.now = record { table = c.requires.table; fits = c.requires.room; place = c.find-f.ensures; end_is = c.before_place-end.ensures; room_is = c.has_room.ensures } in
    added_held k c.if-has_room.true c.if-addr-end.false c.if-f.true

pub put_at-count-requires : goal.put_at-count-requires
put_at-count-requires c = let k : Known c.args.len c.args.room c.args.addr c.find-f.result c.before_place-end.result c.has_room.result c.args.ss.now c.args.es.now = record { table = c.requires.table; fits = c.requires.room; place = c.find-f.ensures; end_is = c.before_place-end.ensures; room_is = c.has_room.ensures } in
    room_looked k c.if-has_room.true

pub returns-then-has_room : goal.returns-then-has_room
returns-then-has_room c = let k : Known c.args.len c.args.room c.args.addr c.find-f.result c.before_place-end.result c.has_room.result c.args.ss.now c.args.es.now = record { table = c.requires.table; fits = c.requires.room; place = c.find-f.ensures; end_is = c.before_place-end.ensures; room_is = c.has_room.ensures } in
    added_open k _ _ _ c.if-has_room.true c.if-addr-end.false c.if-f.false c.put_at-count.ensures

pub returns : goal.returns
returns c = let k : Known c.args.len c.args.room c.args.addr c.find-f.result c.before_place-end.result c.has_room.result c.args.ss.now c.args.es.now = record { table = c.requires.table; fits = c.requires.room; place = c.find-f.ensures; end_is = c.before_place-end.ensures; room_is = c.has_room.ensures } in
    added_full k c.if-has_room.false
