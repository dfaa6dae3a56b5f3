use Rattle.std.proofs.Common.{List, drop}
use Rattle.rules.specs.Known.{Entry}
use Rattle.rules.specs.Map.{Capacity, finalize_functions}
use Rattle.obj_info.specs.Info.{image_of}
use Rattle.analyzer.specs.Table.{Holds}
use Rattle.rounds.proofs.Each.{Now}
use Rattle.rounds.proofs.finalized.finalize_functions.Given as goal

abbrev pub invariant-loop-key : goal.invariant-loop-key
invariant-loop-key l =
    (cap : Capacity) (es : List Entry) → Holds cap l.fn.state l.fn.lists es →
    Now (image_of l.obj) cap l.last (finalize_functions (image_of l.obj) cap l.last es) (drop l.key-index l.key-items) l.changed l.state l.lists
