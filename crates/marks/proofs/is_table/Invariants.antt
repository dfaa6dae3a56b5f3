use Rattle.std.proofs.Common.{◌≡◌, ◌+◌, ◌-◌, ◌≤◌, drop}
use Rattle.rules.specs.Blocks.{is_table}
use Rattle.blocks.specs.Table.{rows}
use Rattle.marks.specs.Marks.{goes_on}
use Rattle.marks.proofs.is_table.Given as goal

-- `marks::is_table`: two rows in each turn. The loop's invariant: the table is one if it goes on as one from here.
abbrev pub invariant-loop-next : goal.invariant-loop-next
invariant-loop-next l =
    (l.next ≡ l.i + 1) × (l.i ≤ l.count) × (is_table (rows l.count l.ss l.es) ≡ goes_on l.least (drop l.i (rows l.count l.ss l.es)))

abbrev pub decreases-loop-next : goal.decreases-loop-next
decreases-loop-next l = l.count - l.i
