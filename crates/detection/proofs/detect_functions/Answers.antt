use Rattle.std.proofs.Common.{rules, ◌≡◌, length, replicate, ℕ, ◌+◌, ◌-◌, ◌*◌, ◌<◌, ◌≤◌, ◌/◌, ◌%◌, Bool, true, false, nat_eq, nat_lt, List, [], ◌∷◌, ◌++◌, slice_index_or, slice_set, bit_and, bit_or, Fits, w8, w32, w64, Bor, MutBor}
use Rattle.rules.specs.Run.{run}
use Rattle.obj_image.specs.Lent.{lent, given, image}
use Rattle.obj_info.specs.Info.{image_of}
use Rattle.detection.specs.Maps.{room_of, reply_of, Left, Told, Counted}
use Rattle.std.proofs.lemmas.Result.{err_from_is_err_and}
use Rattle.obj_info.specs.Info.{lent_of}
use Rattle.detection.proofs.Whole.{told_of, counted_of, refused_of}
use Rattle.detection.proofs.detect_functions.Goals as goal

-- src/lib.rt:89:15
pub returns-in_err-obj-clause-told : goal.returns-in_err-obj-clause-told
returns-in_err-obj-clause-told c =
    let p = err_from_is_err_and c.from_residual.result c.from_residual.ensures.1 in
    rw (p.1, p.2) (refused_of _ c.in_err-obj.field-0.0 c.in_err-obj.ensures.err c.args.rows.now c.args.lists.now)

-- src/lib.rt:65:1
pub returns-clause-told : goal.returns-clause-told
returns-clause-told c =
    told_of (lent_of c.in_ok-obj.obj) _ c.in_ok-obj.ensures.ok c.in_ok-obj.obj.checked c.args.rows.now c.args.lists.now c.detect.new.rows c.detect.new.lists c.detect.result c.detect.ensures

-- src/lib.rt:65:1
pub returns-clause-counted : goal.returns-clause-counted
returns-clause-counted c =
    counted_of (lent_of c.in_ok-obj.obj) _ c.in_ok-obj.ensures.ok c.in_ok-obj.obj.checked c.args.rows.now c.args.lists.now c.detect.new.rows c.detect.new.lists c.detect.result c.detect.ensures
