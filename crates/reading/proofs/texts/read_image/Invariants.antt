use Prim.Native.Nat.{◌+◌, ◌-◌}
use lib.ListN.{length}
use Rattle.reading.proofs.TextReading.{Going}
use Rattle.reading.proofs.texts.read_image.Given as goal

abbrev pub invariant-loop-at : goal.invariant-loop-at
invariant-loop-at l =
    Going l.text l.at l.r l.initial.sections l.sections l.initial.bytes l.bytes l.initial.outcomes l.outcomes l.initial.functions l.functions l.initial.objects l.objects l.initial.skips l.skips l.initial.entry l.entry

abbrev pub decreases-loop-at : goal.decreases-loop-at
decreases-loop-at l =
    length l.text + 1 - l.at
