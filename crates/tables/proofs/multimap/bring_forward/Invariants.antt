use Rattle.std.proofs.Common.{◌≡◌, map}
use lib.Seq.{paste}
use Rattle.std.specs.List.{copy_within}
use Rattle.tables.specs.Groups.{way}
use Rattle.tables.proofs.multimap.bring_forward.Given as goal

abbrev pub invariant-loop-at : goal.invariant-loop-at
invariant-loop-at l = l.ways ≡ paste (copy_within l.fn.ways 0 l.others l.count) 0 (map (way l.from) l.targets) l.at
