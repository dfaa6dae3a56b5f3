use Rattle.reading.proofs.Cutting.{Within}
use Rattle.reading.proofs.texts.line_end.Given as goal

abbrev pub invariant-loop-i : goal.invariant-loop-i
invariant-loop-i l = Within l.text l.from l.i
