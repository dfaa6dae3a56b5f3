use lib.ListN.{length}
use Rattle.obj_image.proofs.sections.+none_overlap.Given as goal

abbrev pub decreases-none_overlap : goal.decreases-none_overlap
decreases-none_overlap l = length l.sections.now
