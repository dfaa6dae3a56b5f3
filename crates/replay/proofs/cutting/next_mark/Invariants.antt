use Rattle.std.proofs.Common.{ℕ, ◌<◌}
use Rattle.replay.specs.Marks.{Mark}
use Rattle.replay.proofs.cutting.next_mark.Given as goal

abbrev pub invariant-loop-i : goal.invariant-loop-i
invariant-loop-i l = (k : ℕ) → k < l.i → Mark l.text k → ⊥
