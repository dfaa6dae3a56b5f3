-- A search of addresses that rise.
use Rattle.rules.specs.Ordered.{self as own}
use Rattle.tables.proofs.Places.{place}
use Rattle.tables.proofs.sets.Set.search.Goals as goal

pub returns-clause-place : goal.returns-clause-place
returns-clause-place g c = rw (← c.self.view_is, ← c.deref.ensures.0) (place own 0 _ _ _ (rw c.deref.ensures.0 c.self.invariant) c.binary_search.ensures.bound c.binary_search.ensures.position)
