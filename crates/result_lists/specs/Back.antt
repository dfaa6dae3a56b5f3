-- The map read back from the lent result lists.
use Rattle.std.specs.Prelude.{Bool, List, [], ◌∷◌, ℕ, zero, suc, ◌+◌, ◌*◌, ◌/◌, ◌%◌, eqb, take, drop, get_or}
use Rattle.std.proofs.Math.Option.{some, none}
use Rattle.rules.specs.Choice.{if}
use Rattle.rules.specs.Blocks.{Block, block}
use Rattle.rules.specs.Slices.{Slices, Branches, Table, slices_of}
use Rattle.rules.specs.Known.{Entry}
use Rattle.tables.specs.Groups.{grouped, way}

-- whether the bit of a power of two is set
abbrev pub set_in : ℕ → ℕ → Bool
set_in f b = eqb (f / b % 2) 1

-- the n numbers from a on
abbrev pub part : ℕ → ℕ → List ℕ → List ℕ
part a n l = take n (drop a l)

-- the rows of two columns
abbrev pub join : {A : Type 0} → (ℕ → ℕ → A) → List ℕ → List ℕ → List A
join f [] ys = []
join f (x ∷ xs) [] = []
join f (x ∷ xs) (y ∷ ys) = f x y ∷ join f xs ys

abbrev pub table : ℕ → ℕ → Table
table a n = record { address = a; size = n }

-- how many blocks, ways on, references, jump tables and possible blocks there are, and the numbers
module _ (b w f t p : ℕ) (l : List ℕ) where
  abbrev pub blocks_from : List Block
  blocks_from = join block (part 0 b l) (part b b l)

  abbrev pub branches_from : List Branches
  branches_from = grouped (join way (part (2 * b) w l) (part (2 * b + w) w l))

  abbrev pub references_from : List ℕ
  references_from = part (2 * b + 2 * w) f l

  abbrev pub tables_from : List Table
  tables_from = join table (part (2 * b + 2 * w + f) t l) (part (2 * b + 2 * w + f + t) t l)

  abbrev pub possible_from : List ℕ
  possible_from = part (2 * b + 2 * w + f + 2 * t) p l

  -- with flags, prologue and epilogue
  abbrev pub lists_from : ℕ → ℕ → ℕ → Slices
  lists_from g pro epi =
      slices_of blocks_from branches_from references_from tables_from possible_from pro epi (set_in g 4) (set_in g 8) (set_in g 16) (set_in g 32)

-- a function's lists, from its row and the numbers from its first on
abbrev pub slices_from : List ℕ → List ℕ → Slices
slices_from r l =
    lists_from (get_or r 5 0) (get_or r 6 0) (get_or r 7 0) (get_or r 8 0) (get_or r 9 0) l (get_or r 2 0) (get_or r 3 0) (get_or r 4 0)

-- how many numbers they are
abbrev pub row_len : List ℕ → ℕ
row_len r = 2 * get_or r 5 0 + 2 * get_or r 6 0 + get_or r 7 0 + 2 * get_or r 8 0 + get_or r 9 0

-- an entry
abbrev pub entry_from : List ℕ → List ℕ → Entry
entry_from r l =
    record { entry = get_or r 0 0; analyzed = set_in (get_or r 2 0) 1; end = get_or r 1 0; slices = if (set_in (get_or r 2 0) 2) (some (slices_from r l)) none }

-- the n entries of the map
abbrev pub map_of : ℕ → List ℕ → List ℕ → List Entry
map_of zero rows lists = []
map_of (suc n) rows lists = entry_from rows lists ∷ map_of n (drop 10 rows) (drop (row_len rows) lists)
