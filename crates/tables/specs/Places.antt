-- Where a key is found in a table, and the rows next to that place.
use Rattle.std.specs.Prelude.{◌≡◌, ℕ, true, false, List, [], ◌∷◌, Option, Some, None, Result, Ok, Err, ltb, eqb}
use Rattle.rules.specs.Choice.{if}
use Rattle.rules.specs.Ordered.{rank, has, lower}

-- the place of the key, if it is there, or the place where it would go
abbrev pub IsPlace : {A : Type 0} → (A → ℕ) → ℕ → List A → Result ℕ ℕ → Type 0
IsPlace key k l (Ok i) = (i ≡ rank key k l) × (has key k l ≡ true)
IsPlace key k l (Err i) = (i ≡ rank key k l) × (has key k l ≡ false)

module _ {A : Type 0} (key : A → ℕ) where
  -- the row with the key k
  abbrev pub row_of : ℕ → List A → Option A
  row_of k [] = None
  row_of k (x ∷ l) = if (ltb (key x) k) (row_of k l) (if (eqb (key x) k) (Some x) None)

  -- the first row whose key is k or more
  abbrev pub first_from : ℕ → List A → Option A
  first_from k [] = None
  first_from k (x ∷ l) = if (ltb (key x) k) (first_from k l) (Some x)

  -- the last row whose key is below k
  abbrev pub last_below : ℕ → List A → Option A
  last_below k [] = None
  last_below k (x ∷ l) = if (ltb (key x) k) (Some (lower key k x l)) None
