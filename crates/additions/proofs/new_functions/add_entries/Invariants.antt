use Rattle.rules.specs.Image.{Image}
use Rattle.rules.specs.Map.{add_entries}
use Rattle.additions.proofs.Each.{Going}
use Rattle.additions.proofs.new_functions.add_entries.Given as goal

abbrev pub invariant-loop-key : goal.invariant-loop-key
invariant-loop-key l = (im : Image) → Going (add_entries im) l.keys l.initial.state l.key-index l.state
