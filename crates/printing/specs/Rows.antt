-- The result lists that a map is printed from (`result_lists` has what stands where in them).
use Rattle.std.specs.Prelude.{◌≡◌, List, [], ◌∷◌, ℕ, ◌+◌, ◌*◌, ◌≤◌, length, take, drop, get_or}
use Rattle.rules.specs.Known.{Entry}
use Rattle.analyzer.specs.Table.{flat, AllRight}
use Rattle.result_lists.specs.Rows.{rows_of}
use Rattle.result_lists.specs.Back.{row_len, entry_from}
use Rattle.printing.specs.declared.row.EntryRow.{EntryRow}

-- a row by value, from its numbers
abbrev pub row_from : List ℕ → EntryRow
row_from r =
    record { entry = get_or r 0 0; end = get_or r 1 0; flags = get_or r 2 0; prologue = get_or r 3 0; epilogue = get_or r 4 0; blocks = get_or r 5 0; branches = get_or r 6 0; function_references = get_or r 7 0; jump_tables = get_or r 8 0; possible_blocks = get_or r 9 0 }

-- how many numbers its lists are
abbrev pub numbers_long : EntryRow → ℕ
numbers_long e = 2 * e.blocks + 2 * e.branches + e.function_references + 2 * e.jump_tables + e.possible_blocks

-- the entries of rows, whose numbers stand one entry's behind the other's
abbrev pub entries_in : List (List ℕ) → List ℕ → List Entry
entries_in [] l = []
entries_in (r ∷ rows) l = entry_from r l ∷ entries_in rows (drop (row_len r) l)

-- the numbers of each are there
abbrev pub There : List (List ℕ) → List ℕ → Type 0
There [] l = Unit {0}
There (r ∷ rows) l = (row_len r ≤ length l) × There rows (drop (row_len r) l)

-- a list begins with l
pub record Begins (l xs : List ℕ) : Type 0 where
  pub same : take (length l) xs ≡ l

-- the lists tell these n entries
pub record Tells (n : ℕ) (rows lists : List ℕ) (es : List Entry) : Type 0 where
  pub count : length es ≡ n
  pub rows_are : Begins (rows_of es) rows
  pub numbers_are : Begins (flat es) lists
  pub right : AllRight es

-- they tell n entries
pub record Telling (n : ℕ) (rows lists : List ℕ) : Type 0 where
  pub entries : List Entry
  pub tells : Tells n rows lists entries
