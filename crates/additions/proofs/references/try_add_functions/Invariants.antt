use Rattle.rules.specs.Map.{try_add_functions}
use Rattle.obj_info.specs.Info.{image_of}
use Rattle.additions.proofs.Each.{Going}
use Rattle.additions.proofs.references.try_add_functions.Given as goal

abbrev pub invariant-loop-key : goal.invariant-loop-key
invariant-loop-key l = Going (try_add_functions (image_of l.obj)) l.keys l.initial.state l.key-index l.state
