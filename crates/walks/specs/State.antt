-- The state of a walk, as the rules have it.
use Rattle.rules.specs.Step as rules
use Rattle.slices.specs.View.{slices_of}
use Rattle.worklist.specs.Bits.{bit}
use Rattle.walks.specs.declared.walk.Walk.{Walk}
use Rattle.walks.specs.declared.walk.Place.{Place}
use Rattle.walks.specs.declared.walk.Place.TheVariants.{Idle, At, Nowhere}

abbrev pub place_of : Place → rules.Place
place_of Idle = rules.idle
place_of (At word block) = rules.at word block
place_of Nowhere = rules.nowhere

abbrev pub walk_of : Walk → rules.Walk
walk_of w = record { slices = slices_of w.slices; visited = bit w.visited; pending = w.pending; fresh = w.fresh; place = place_of w.place }
