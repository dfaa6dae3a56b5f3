-- A search of rows whose keys rise.
use Rattle.std.proofs.Common.{rules}
use Rattle.std.proofs.lemmas.List.Sorted.{answers_always}
use Rattle.tables.specs.Rows.{row, key_of}
use Rattle.tables.proofs.Places.{place}
use Rattle.tables.proofs.maps.Map.position.Goals as goal

pub returns-clause-place : goal.returns-clause-place
returns-clause-place g c =
    rw (← c.self.view_is, ← c.deref.ensures.0)
    (place key_of (row 0 0) _ _ _ (rw c.deref.ensures.0 c.self.invariant) c.binary_search_by_key.ensures.bound (c.binary_search_by_key.ensures.position key_of (answers_always _ _ _ (λ f a r q h. search rules))))
