-- Where an address goes among ascending ones, what is taken of a list, and what is left.
use Rattle.std.specs.Prelude.{ℕ, ◌≤◌, ◌<◌, List, [], ◌∷◌, length, slice_index, Option, Some, None}

-- what stands before the place is no higher, what stands behind it is
pub record IsPlace (addresses : List ℕ) (address place : ℕ) : Type 0 where
  pub within : place ≤ length addresses
  pub low : (k : ℕ) → k < place → slice_index addresses k ≤ address
  pub high : (k : ℕ) → place ≤ k → k < length addresses → address < slice_index addresses k

abbrev pub first : List ℕ → Option ℕ
first [] = None
first (k ∷ l) = Some k

abbrev pub rest : List ℕ → List ℕ
rest [] = []
rest (k ∷ l) = l
