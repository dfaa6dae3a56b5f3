use Rattle.std.proofs.Common.{◌-◌}
use Rattle.obj_info.specs.Info.{image_of}
use Rattle.additions.proofs.Alignment.{Over}
use Rattle.additions.proofs.gaps.skip_alignment.Given as goal

abbrev pub invariant-loop-at : goal.invariant-loop-at
invariant-loop-at l = Over (image_of l.obj) l.a l.end l.at

abbrev pub decreases-loop-at : goal.decreases-loop-at
decreases-loop-at l = l.end - l.at
