use mathlib.Core.Path.{refl}
use native.Mathlib.Omega.{arith}
use Rattle.runs.proofs.Laws.{fill_done}
use Rattle.runs.proofs.splice_fill.Goals as goal

pub returns : goal.returns
returns c = record { count = omega arith; whole = rw c.make_room-count.ensures.count (fill_done _ _ _ _ _ _ _ _ c.requires refl refl _ c.make_room-count.ensures.moved _ c.fill.ensures) }
