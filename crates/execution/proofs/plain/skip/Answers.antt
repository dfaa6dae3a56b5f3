use Rattle.std.proofs.Common.{refl, ap, arith}
use Rattle.obj_info.specs.Info.{image_of}
use Rattle.walks.specs.Around.{around_of}
use Rattle.walks.specs.State.{walk_of, place_of}
use Rattle.worklist.specs.Bits.{bit}
use Rattle.execution.proofs.Scans.{stretch_within}
use Rattle.execution.proofs.Skips.{not_before, not_spotted, not_begun, gone_over}
use Rattle.execution.proofs.Spots.{two_behind, all_behind, low_behind}
use Rattle.execution.proofs.Words.{sound_of}
use Rattle.execution.proofs.plain.skip.Goals as goal

pub returns-in_default : goal.returns-in_default
returns-in_default c = λ es knows. not_before (around_of c.args.around.now es) (walk_of c.args.walk.now) _ refl c.in_default.not-At

pub returns-in_default-spot_of : goal.returns-in_default-spot_of
returns-in_default-spot_of c = λ es knows.
    not_spotted (around_of c.args.around.now es) (sound_of c.args.around.now.obj) (walk_of c.args.walk.now) _ _ (ap place_of c.in-At.is) c.in_default-spot_of.ensures

pub begins-requires : goal.begins-requires
begins-requires c =
    omega (arith, two_behind (image_of c.args.around.now.obj) c.in-At.word c.in-At.block (sound_of c.args.around.now.obj) c.in-Some.spot c.in-Some.ensures, all_behind (image_of c.args.around.now.obj) c.in-At.word c.in-At.block (sound_of c.args.around.now.obj) c.in-Some.spot c.in-Some.ensures)

pub returns-then-not-begins : goal.returns-then-not-begins
returns-then-not-begins c = λ es knows.
    not_begun (around_of c.args.around.now es) (sound_of c.args.around.now.obj) (walk_of c.args.walk.now) _ _ (ap place_of c.in-At.is) _ c.in-Some.ensures _ c.begins.ensures c.if-not-begins.true

pub how_many-most-requires : goal.how_many-most-requires
how_many-most-requires c = low_behind (image_of c.args.around.now.obj) c.in-At.word c.in-At.block (sound_of c.args.around.now.obj) c.in-Some.spot c.in-Some.ensures

pub scan-count-requires : goal.scan-count-requires
scan-count-requires c =
    omega (arith, c.how_many-most.ensures.most, all_behind (image_of c.args.around.now.obj) c.in-At.word c.in-At.block (sound_of c.args.around.now.obj) c.in-Some.spot c.in-Some.ensures)

pub overflow_mul-walk : goal.overflow_mul-walk
overflow_mul-walk c =
    omega (arith, c.scan-count.ensures.count, c.how_many-most.ensures.most, stretch_within (image_of c.args.around.now.obj) (bit c.args.walk.now.visited) c.in-Some.spot.index c.how_many-most.result, low_behind (image_of c.args.around.now.obj) c.in-At.word c.in-At.block (sound_of c.args.around.now.obj) c.in-Some.spot c.in-Some.ensures)

pub overflow_add-walk : goal.overflow_add-walk
overflow_add-walk c =
    omega (arith, c.scan-count.ensures.count, c.how_many-most.ensures.most, stretch_within (image_of c.args.around.now.obj) (bit c.args.walk.now.visited) c.in-Some.spot.index c.how_many-most.result, low_behind (image_of c.args.around.now.obj) c.in-At.word c.in-At.block (sound_of c.args.around.now.obj) c.in-Some.spot c.in-Some.ensures)

pub returns : goal.returns
returns c = λ es knows.
    gone_over (around_of c.args.around.now es) (sound_of c.args.around.now.obj) (walk_of c.args.walk.now) _ _ (ap place_of c.in-At.is) _ c.in-Some.ensures _ c.begins.ensures c.if-not-begins.false _ _ (c.how_many-most.ensures.value es knows) c.scan-count.ensures.count _ c.scan-count.ensures.marked
