use Rattle.std.proofs.Common.{List, drop}
use Rattle.rules.specs.Known.{Entry}
use Rattle.rules.specs.Map.{Capacity, process_each}
use Rattle.obj_info.specs.Info.{image_of}
use Rattle.analyzer.specs.Table.{Holds}
use Rattle.rounds.proofs.Given.{Now}
use Rattle.rounds.proofs.first.process_each.Given as goal

abbrev pub invariant-loop-key : goal.invariant-loop-key
invariant-loop-key l =
    (cap : Capacity) (es : List Entry) → Holds cap l.fn.state l.fn.lists es →
    Now (image_of l.obj) cap (process_each (image_of l.obj) cap l.keys es) (drop l.key-index l.keys) l.state l.lists
