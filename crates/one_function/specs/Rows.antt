-- Known functions as rows of a lent list: entry, end.
use Rattle.std.specs.Prelude.{List, [], ◌∷◌, Bool, ◌&&◌, ℕ, ◌%◌, eqb, length, slice_index}
use Rattle.rules.specs.Blocks.{Block, block}
use Rattle.rules.specs.OneFunction.{are_known}
use Rattle.tables.specs.Rows.{row}
use Rattle.tables.specs.declared.maps.Row.{Row}

-- the rows; one that is not whole is none
abbrev pub known_blocks : List ℕ → List Block
known_blocks [] = []
known_blocks (a ∷ []) = []
known_blocks (a ∷ b ∷ l) = block a b ∷ known_blocks l

-- each row is whole, and they are known functions
unfoldable pub are_known_list : List ℕ → Bool
are_known_list l = eqb (length l % 2) 0 && are_known (known_blocks l)

-- a row of two numbers, as the rules have it, and as one of a table
abbrev pub block_in : List ℕ → Block
block_in c = block (slice_index c 0) (slice_index c 1)

abbrev pub row_in : List ℕ → Row
row_in c = row (slice_index c 0) (slice_index c 1)
