-- A set of numbers as words of 32 bits, a bit each.
use Rattle.std.specs.Prelude.{ℕ, ◌/◌, ◌%◌, ◌^◌, Bool, List, slice_index, eqb}

-- whether i is in the set
unfoldable pub bit : List ℕ → ℕ → Bool
bit words i = eqb (slice_index words (i / 32) / 2 ^ (i % 32) % 2) 1
