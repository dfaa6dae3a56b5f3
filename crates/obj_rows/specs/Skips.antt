-- Skip ranges by value, and what a lookup in them comes to.
use Rattle.std.specs.Prelude.{ℕ, ◌%◌, ◌≡◌, Bool, true, List, [], ltb, get_or, length}
use Rattle.rules.specs.Image as images
use Rattle.rules.specs.Check as rules
use Rattle.rules.specs.Map.{Capacity, skip_range}
use Rattle.obj_image.specs.Lent.{Lent, rows, skip_row, image, seen}
use Rattle.obj_rows.specs.declared.skips.Range.{Range}

-- a range by value, from the numbers of its row
abbrev pub range_by : List ℕ → Range
range_by c = record { first = get_or c 0 0; past = get_or c 1 0 }

abbrev pub range_of : Range → images.Range
range_of r = record { first = r.first; past = r.past }

-- two numbers, as a range
abbrev pub read_range : List ℕ → images.Range
read_range c = range_of (range_by c)

-- where a row begins
abbrev pub first_of : List ℕ → ℕ
first_of c = (read_range c).first

-- some address is in the range
abbrev pub is_nonempty : images.Range → Bool
is_nonempty r = ltb r.first r.past

-- what halving asks of the ranges, and check 3 leaves: whole rows, none of them empty, each behind the one before
pub record Ascending (s : List ℕ) : Type 0 where
  pub whole : length s % 2 ≡ 0
  pub nonempty : rules.all is_nonempty (rows 2 skip_row s) ≡ true
  pub order : rules.chained (rules.comes_before (seen [])) (rows 2 skip_row s) ≡ true

-- behind the first range that holds a, of any image with these ranges
abbrev pub IsSkipped : List ℕ → ℕ → ℕ → Type 0
IsSkipped s a r = (l : Lent) (cap : Capacity) → l.skips ≡ s → r ≡ skip_range (image l) cap a
