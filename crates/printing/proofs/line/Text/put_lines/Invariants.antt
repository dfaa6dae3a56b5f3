use Rattle.std.specs.Iterator.Adapters.{zip_first, zip_second}
use Rattle.std.specs.Slice.Iter.{iter_rest}
use Rattle.printing.specs.Columns.{lines}
use Rattle.printing.proofs.Printing.{Going}
use Rattle.printing.proofs.line.Text.put_lines.Given as goal

abbrev pub invariant-loop-first : goal.invariant-loop-first
invariant-loop-first l =
    Going (lines l.kind (iter_rest (zip_first l.first-iterator)) (iter_rest (zip_second l.first-iterator))) (lines l.kind l.firsts l.seconds) l.initial.self l.self
