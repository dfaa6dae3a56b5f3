use Prim.Native.Nat.{◌+◌, ◌-◌}
use mathlib.Core.Path.{◌≡◌}
use lib.ListN.{drop}
use Rattle.rules.specs.Blocks.{first_disconnected_block}
use Rattle.blocks.specs.Table.{rows}
use Rattle.blocks.proofs.first_disconnected_block.Given as goal

abbrev pub invariant-loop-next : goal.invariant-loop-next
invariant-loop-next l = (l.next ≡ l.i + 1) × (first_disconnected_block (rows l.count l.ss l.es) ≡ first_disconnected_block (drop l.i (rows l.count l.ss l.es)))

abbrev pub decreases-loop-next : goal.decreases-loop-next
decreases-loop-next l = l.count - l.next
