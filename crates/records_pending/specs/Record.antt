-- The pending addresses of a lent record, and where a further one goes among them.
use Rattle.std.specs.Prelude.{ℕ, ◌≤◌, ◌<◌, ◌-◌, List, length, take, reverse, slice_index}
use Rattle.records_pending.specs.declared.Pending.{Pending}

-- the highest first
abbrev pub list_of : Pending → List ℕ
list_of p = reverse (take p.count p.addresses)

-- the one before the place, if there is one, is no higher, and each behind it is
pub record IsBehind (addresses : List ℕ) (address place : ℕ) : Type 0 where
  pub within : place ≤ length addresses
  pub low : 0 < place → slice_index addresses (place - 1) ≤ address
  pub high : (k : ℕ) → place ≤ k → k < length addresses → address < slice_index addresses k
