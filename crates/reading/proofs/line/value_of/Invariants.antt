use Rattle.reading.proofs.Digits.{Read}
use Rattle.reading.proofs.line.value_of.Given as goal

abbrev pub invariant-loop-byte : goal.invariant-loop-byte
invariant-loop-byte l = Read l.line l.byte-index l.value
