use mathlib.Core.Path.{refl}
use native.Mathlib.Omega.{arith}
use Rattle.runs.proofs.Laws.{splice_done}
use Rattle.runs.proofs.splice.Goals as goal

pub returns : goal.returns
returns c = record { count = omega arith; whole = rw c.make_room-count.ensures.count (splice_done _ _ _ _ _ _ _ _ c.requires.0 c.requires.1 refl refl _ c.make_room-count.ensures.moved _ c.copy_in.ensures) }
