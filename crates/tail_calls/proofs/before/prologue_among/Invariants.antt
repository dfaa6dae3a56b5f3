use Rattle.std.proofs.Common.{◌≡◌}
use Rattle.rules.specs.Bytes.{words_in}
use Rattle.rules.specs.Sequences.{prologue_among}
use Rattle.tail_calls.proofs.before.prologue_among.Given as goal

abbrev pub invariant-loop-left : goal.invariant-loop-left
invariant-loop-left l = prologue_among l.left (words_in l.rest) ≡ prologue_among l.count (words_in l.bytes)

abbrev pub decreases-loop-left : goal.decreases-loop-left
decreases-loop-left l = l.left
