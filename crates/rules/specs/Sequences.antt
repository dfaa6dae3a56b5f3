-- Prologue and epilogue sequences: a word and, further on, its partner. A scan for the partner stops at a branch, at a word that names r0 or r1,
-- or where the words end; the partner is tested first.
use Rattle.std.specs.Prelude.{ℕ, zero, suc, Bool, true, false, ◌&&◌, ◌||◌, List, [], ◌∷◌}
use Rattle.rules.specs.Choice.{if}
use Rattle.rules.specs.Words.{is_branch, is_mflr, is_mtlr, is_stwu, is_stw, is_addi, is_or}
use Rattle.rules.specs.Registers.{names_r0_or_r1}

-- "A scan stops at a branch [..], at a word that reads or writes r0 or r1"
unfoldable pub is_end_of_seq : ℕ → Bool
is_end_of_seq w = is_branch w || names_r0_or_r1 w

-- a partner comes before the scan stops
abbrev pub scan : (ℕ → Bool) → List ℕ → Bool
scan second [] = false
scan second (w ∷ ws) = let more : Bool = scan second ws in if (second w) true (if (is_end_of_seq w) false more)

-- the words begin with the first of a pair, and its partner comes in time
abbrev pub is_pair : (ℕ → Bool) → (ℕ → Bool) → List ℕ → Bool
is_pair first second [] = false
is_pair first second (w ∷ ws) = first w && scan second ws

-- a pair of tests: the word that a sequence starts with, and its partner
pub record Pair : Type 0 where
  pub first : ℕ → Bool
  pub second : ℕ → Bool

-- the words begin one of the sequences
abbrev pub check_sequence : List Pair → List ℕ → Bool
check_sequence [] ws = false
check_sequence (p ∷ ps) ws = is_pair p.first p.second ws || check_sequence ps ws

-- "`stwu`/`stwux` of r1 on r1, then `mflr r0`; `mflr r0`, then `stw r0` on r1; `mflr r0`, then that `stwu`"
unfoldable pub prologue_pairs : List Pair
prologue_pairs =
    record { first = is_stwu; second = is_mflr } ∷
    record { first = is_mflr; second = is_stw } ∷
    record { first = is_mflr; second = is_stwu } ∷ []

-- "`mtlr r0`, `addi r1,r1`; `mtlr r0`, `or`; `or`, `mtlr r0`"
unfoldable pub epilogue_pairs : List Pair
epilogue_pairs =
    record { first = is_mtlr; second = is_addi } ∷
    record { first = is_mtlr; second = is_or } ∷
    record { first = is_or; second = is_mtlr } ∷ []

-- the words begin with a prologue
unfoldable pub check_prologue_sequence : List ℕ → Bool
check_prologue_sequence ws = check_sequence prologue_pairs ws

-- the words begin with an epilogue
unfoldable pub check_epilogue_sequence : List ℕ → Bool
check_epilogue_sequence ws = check_sequence epilogue_pairs ws

-- one of the first n words begins a prologue
abbrev pub prologue_among : ℕ → List ℕ → Bool
prologue_among zero ws = false
prologue_among (suc n) [] = false
prologue_among (suc n) (w ∷ ws) = let more : Bool = prologue_among n ws in if (check_prologue_sequence (w ∷ ws)) true more
