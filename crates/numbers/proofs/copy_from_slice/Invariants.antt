use Rattle.std.proofs.Common.{◌≡◌, take}
use Rattle.numbers.proofs.copy_from_slice.Given as goal

abbrev pub invariant-loop-at : goal.invariant-loop-at
invariant-loop-at l = take l.at l.to ≡ take l.at l.from
