use Prim.Native.Nat.{◌-◌}
use Rattle.ordered.proofs.Arrays.{Halved}
use Rattle.ordered.proofs.rank_in.Given as goal

abbrev pub invariant-loop-lo : goal.invariant-loop-lo
invariant-loop-lo l = Halved l.xs l.count l.key l.lo l.hi

abbrev pub decreases-loop-lo : goal.decreases-loop-lo
decreases-loop-lo l = l.hi - l.lo
