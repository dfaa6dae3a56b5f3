use Rattle.std.proofs.Common.{◌≡◌, ◌++◌, take, map}
use Rattle.std.specs.List.{remove_range}
use Rattle.tables.specs.Groups.{way}
use Rattle.tables.proofs.multimap.replace.Given as goal

abbrev pub invariant-loop-to : goal.invariant-loop-to
invariant-loop-to g l = l.ways.items ≡ remove_range l.fn.ways.items l.at l.until ++ map (way l.from) (take l.to-index l.targets)
