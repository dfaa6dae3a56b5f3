-- What marking an address as the start of a block does to the table of blocks.
use Rattle.std.specs.Prelude.{ℕ, ◌%◌, min, Bool, true, false, ◌&&◌, ◌||◌, not, List, [], ◌∷◌, ltb, leb, eqb, length}
use Rattle.rules.specs.Choice.{if, Answer, ok, fault}
use Rattle.rules.specs.Ordered.{has, put, lower, last, first}

-- a block, from its start up to its end; the end of an open one is 0
pub record Block : Type 0 where
  pub start : ℕ
  pub end : ℕ

-- a block by its two addresses
abbrev pub block : ℕ → ℕ → Block
block s e = record { start = s; end = e }

-- blocks are told apart by their starts
abbrev pub start_of : Block → ℕ
start_of b = b.start

-- the nearest block that starts below a, and an empty one where none does
abbrev pub below : ℕ → List Block → Block
below a bs = lower start_of a (block 0 0) bs

-- a block reaches over a
unfoldable pub reaches : ℕ → List Block → Bool
reaches a bs = ltb a (below a bs).end

-- a block that reaches over a is cut there, and the rest of it starts at a
unfoldable pub cut : ℕ → List Block → List Block
cut a bs = put start_of (block a (below a bs).end) (put start_of (block (below a bs).start a) bs)

-- otherwise an open block starts at a, unless one starts there already
unfoldable pub mark : ℕ → List Block → List Block
mark a bs = if (reaches a bs) (cut a bs) (if (has start_of a bs) bs (put start_of (block a 0) bs))

-- whether that is a new open block
unfoldable pub is_new : ℕ → List Block → Bool
is_new a bs = if (reaches a bs) false (not (has start_of a bs))

-- the first start
unfoldable pub first_start : List Block → ℕ
first_start bs = (first (block 0 0) bs).start

-- the last start
unfoldable pub last_start : List Block → ℕ
last_start bs = (last (block 0 0) bs).start

-- the last block's end
unfoldable pub last_end : List Block → ℕ
last_end bs = (last (block 0 0) bs).end

-- "A block with an end is closed"
abbrev pub is_open : Block → Bool
is_open b = eqb b.end 0

-- both are closed, and words lie between
abbrev pub apart : Block → Block → Bool
apart a b = not (is_open a) && not (is_open b) && ltb a.end b.start

-- the first block that stands apart from the next; an empty one where none does
abbrev pub first_disconnected_block : List Block → Block
first_disconnected_block [] = block 0 0
first_disconnected_block (a ∷ []) = block 0 0
first_disconnected_block (a ∷ b ∷ bs) = let r : Block = first_disconnected_block (b ∷ bs) in if (apart a b) a r

-- ---- one table to be marked, handed in

-- a multiple of 4
abbrev pub is_aligned : ℕ → Bool
is_aligned a = eqb (a % 4) 0

-- start and end are multiples of 4, and a closed end lies above its start
abbrev pub is_block : Block → Bool
is_block b = is_aligned b.start && is_aligned b.end && (is_open b || ltb b.start b.end)

-- the first start, if there is one, is above k
abbrev pub starts_above : ℕ → List Block → Bool
starts_above k [] = true
starts_above k (b ∷ bs) = ltb k b.start

-- all are blocks, and their starts ascend strictly
abbrev pub is_table : List Block → Bool
is_table [] = true
is_table (b ∷ bs) = is_block b && starts_above b.start bs && is_table bs

-- the table after a mark, and whether it opened a block
pub record Marked : Type 0 where
  pub blocks : List Block
  pub new : Bool

-- at most 256 blocks, and no more than the lent table holds
abbrev pub most_blocks : ℕ → ℕ
most_blocks lent = min 256 lent

-- 3 where the table or the address breaks a rule, 4 where the table is full, else the table as marked
unfoldable pub mark_in : ℕ → ℕ → List Block → Answer Marked
mark_in lent a bs =
    if (is_aligned a && is_table bs)
    (if (leb (length (mark a bs)) (most_blocks lent)) (ok (record { blocks = mark a bs; new = is_new a bs })) (fault 4)) (fault 3)
