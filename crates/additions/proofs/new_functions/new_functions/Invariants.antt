use Rattle.obj_info.specs.Info.{image_of}
use Rattle.additions.proofs.Search.{Seeking}
use Rattle.additions.proofs.new_functions.new_functions.Given as goal

abbrev pub invariant-loop-i : goal.invariant-loop-i
invariant-loop-i l = Seeking (image_of l.obj) l.functions l.keys.items l.i
