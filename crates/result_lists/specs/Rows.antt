-- The map in the lent result lists. `rows` has ten numbers for each entry: its address, its end (0 for none), flags (1 analyzed, 2 has
-- lists, 4 conditional `blr`, 8 `rfi`, 16 load of r1, 32 finalized), prologue, epilogue, and how many blocks, ways on, references, jump
-- tables and possible blocks it has. `lists` has the numbers of the functions' lists, one function's directly behind the other's.
use Rattle.std.specs.Prelude.{◌≡◌, Bool, true, false, List, [], ◌∷◌, ◌++◌, ℕ, ◌+◌, ◌-◌, ◌*◌, length, replicate}
use Rattle.std.proofs.Math.Option.{Option, none, some}
use Rattle.rules.specs.Slices.{Slices, count_branches}
use Rattle.rules.specs.Known.{Entry}
use Rattle.analyzer.specs.Table.{flat}

-- how many numbers a row has
abbrev pub ROW : ℕ
ROW = 10

abbrev pub flag : Bool → ℕ
flag false = 0
flag true = 1

-- analyzed, has lists, conditional blr, rfi, load of r1, finalized: 1, 2, 4, 8, 16, 32
abbrev pub flags : Bool → Option Slices → ℕ
flags a none = flag a
flags a (some s) = flag a + 2 + 4 * flag s.conditional_blr + 8 * flag s.rfi + 16 * flag s.r1_load + 32 * flag s.finalized

-- of an entry without lists, or with some
abbrev pub row_of : ℕ → ℕ → Bool → Option Slices → List ℕ
row_of k end a none = k ∷ end ∷ flags a none ∷ 0 ∷ 0 ∷ 0 ∷ 0 ∷ 0 ∷ 0 ∷ 0 ∷ []
row_of k end a (some s) =
    k ∷ end ∷ flags a (some s) ∷ s.prologue ∷ s.epilogue ∷ length s.blocks ∷ count_branches s.branches ∷ length s.function_references ∷ length s.jump_table_references ∷ length s.possible_blocks ∷ []

-- an entry's ten numbers
abbrev pub result_row : Entry → List ℕ
result_row x = row_of x.entry x.end x.analyzed x.slices

-- those of each entry
abbrev pub rows_of : List Entry → List ℕ
rows_of [] = []
rows_of (x ∷ es) = result_row x ++ rows_of es

-- a list, and zeros past it up to a length
abbrev pub padded : List ℕ → ℕ → List ℕ
padded l n = l ++ replicate (n - length l) 0

-- the lists hold these entries, and zeros past them
pub record Results (es : List Entry) (rows_before lists_before rows lists : List ℕ) (total : ℕ) : Type 0 where
  pub rows_are : rows ≡ padded (rows_of es) (length rows_before)
  pub lists_are : lists ≡ padded (flat es) (length lists_before)
  pub total_is : total ≡ length (flat es)
