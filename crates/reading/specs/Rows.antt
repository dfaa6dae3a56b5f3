-- Rows put at the end of a list that stands in the first numbers of a lent one.
use Rattle.std.specs.Prelude.{◌≡◌, List, ◌++◌, ℕ, ◌+◌, ◌≤◌, ltb, leb, length, take}
use Rattle.std.specs.Prelude.{Option, None, Some}
use Rattle.rules.specs.Choice.{if}
use Rattle.reading.specs.declared.rows.Count.{Count}

-- A row more. A list that is longer than its limit already breaks its rule, and stays as it is; where there is no room, there is none.
unfoldable pub add_row : ℕ → ℕ → List ℕ → List ℕ → Option (List ℕ)
add_row limit room row l =
    if (ltb limit (length l)) (Some l) (if (leb (length l + length row) room) (Some (l ++ row)) None)

-- the list that stands in the first numbers of a lent one, if there is one
unfoldable pub counted : Count → List ℕ → Option (List ℕ)
counted c xs = if c.ok (Some (take c.count xs)) None

-- numbers behind the first n
pub record Put (n : ℕ) (row xs ys : List ℕ) : Type 0 where
  pub size : length ys ≡ length xs
  pub same : take (n + length row) ys ≡ take n xs ++ row

-- a row added to the first n numbers, with their new count
pub record Added (limit n : ℕ) (row xs ys : List ℕ) (r : Count) : Type 0 where
  pub size : length ys ≡ length xs
  pub within : r.count ≤ length ys
  pub same : counted r ys ≡ add_row limit (length xs) row (take n xs)
