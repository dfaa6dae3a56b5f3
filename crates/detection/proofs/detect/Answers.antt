use Rattle.std.proofs.Common.{rules, ◌≡◌, length, replicate, ℕ, ◌+◌, ◌-◌, ◌*◌, ◌<◌, ◌≤◌, ◌/◌, ◌%◌, Bool, true, false, nat_eq, nat_lt, List, [], ◌∷◌, ◌++◌, slice_index_or, slice_set, bit_and, bit_or, Fits, w8, w32, w64, Bor, MutBor}
use Rattle.rules.specs.Run.{run}
use Rattle.obj_image.specs.Lent.{lent, given, image}
use Rattle.obj_info.specs.Info.{image_of}
use Rattle.detection.specs.Maps.{room_of, reply_of, Left, Told, Counted}
use Rattle.detection.proofs.Whole.{fits, left_map}
use Rattle.detection.proofs.detect.Goals as goal

-- src/lib.rt:49:17
pub put_results-numbers-requires : goal.put_results-numbers-requires
put_results-numbers-requires c = fits (image_of c.args.obj.now) c.args.rows.now c.args.lists.now c.detect.new.state c.detect.new.lists c.in-Ok.ensures

-- src/lib.rt:40:1
pub returns-in-Ok : goal.returns-in-Ok
returns-in-Ok c =
    let d = c.in-Ok.ensures in
    left_map (image_of c.args.obj.now) c.args.rows.now c.args.lists.now c.detect.new.state c.detect.new.lists d c.len.result c.put_results-numbers.result c.len.ensures.value _ _ (c.put_results-numbers.ensures (room_of c.args.rows.now c.args.lists.now) d.entries d.holds)
