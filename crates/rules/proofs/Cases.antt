-- The cases that document 01 asks to be proved, as rows of one table with one theorem: the four marks, the word sequences and the run.
-- And the two ends of a branch's reach.
use Prim.Native.Nat.{ℕ}
use mathlib.Core.Path.{◌≡◌, refl}
use mathlib.Core.Bool.{Bool, true, false}
use mathlib.Core.List.{List, [], ◌∷◌, map}
use lib.IntN.{ℤ, pos, negsuc}
use Rattle.rules.specs.Choice.{if, Answer, ok, fault}
use Rattle.rules.specs.Blocks.{Block, block, Marked, mark_in, mark, is_new, reaches, cut}
use Rattle.rules.specs.Words
use Rattle.rules.specs.Registers
use Rattle.rules.specs.Sequences
use Rattle.rules.specs.Branches
use Rattle.rules.specs.Text.{bytes}
use Rattle.rules.specs.Lines.{Line}
use Rattle.rules.specs.Given.{Given}
use Rattle.rules.proofs.Whole.{whole, enough}
use Rattle.rules.proofs.Examples.{sample}

-- what comes of marking one block alone: the number, the table after it, and whether a block was opened
pub record Result : Type 0 where
  pub number : ℕ
  pub after : List Block
  pub yes : Bool

-- "on 3 or 4 leaves its table unchanged and says no"
abbrev pub result : List Block → Answer Marked → Result
result before (ok m) = record { number = 0; after = m.blocks; yes = m.new }
result before (fault n) = record { number = n; after = before; yes = false }

pub data Case : Type 0 where
  -- an address marked in a table of blocks, lent with room for all that there may be
  marked : ℕ → List Block → Result → Case
  -- words, whether they begin with a prologue sequence, and whether with an epilogue sequence
  words : List ℕ → Bool → Bool → Case
  -- an image handed in, and the lines of its map
  run : Given → List Line → Case

-- a row with what the definitions answer in the place of its answer
abbrev pub computed : Case → Case
computed (marked a before o) = marked a before (result before (mark_in 256 a before))
computed (words ws p e) = words ws (Sequences.check_prologue_sequence ws) (Sequences.check_epilogue_sequence ws)
computed (run g ls) = run g (whole g enough)

abbrev pub one_block : List Block
one_block = block 0x1000 0x1010 ∷ []

abbrev pub cases : List Case
cases =
    -- in one block it cuts; behind it, it opens; at its start there is nothing to do; an empty table gets its first block
    marked 0x1008 one_block (record { number = 0; after = block 0x1000 0x1008 ∷ block 0x1008 0x1010 ∷ []; yes = false }) ∷
    marked 0x1010 one_block (record { number = 0; after = block 0x1000 0x1010 ∷ block 0x1010 0 ∷ []; yes = true }) ∷
    marked 0x1000 one_block (record { number = 0; after = one_block; yes = false }) ∷
    marked 0x1000 [] (record { number = 0; after = block 0x1000 0 ∷ []; yes = true }) ∷
    -- three prologues
    words (0x9421FFF0 ∷ 0x7C0802A6 ∷ []) true false ∷
    words (0x7C0802A6 ∷ 0x90010014 ∷ []) true false ∷
    words (0x7C0802A6 ∷ 0x38600000 ∷ 0x90010014 ∷ []) true false ∷
    -- that nop names r0
    words (0x7C0802A6 ∷ 0x60000000 ∷ 0x90010014 ∷ []) false false ∷
    words (0x7C0802A6 ∷ 0x4E800020 ∷ 0x90010014 ∷ []) false false ∷
    -- an epilogue
    words (0x7C0803A6 ∷ 0x38210010 ∷ []) false true ∷
    -- two words that return
    run sample
    (bytes "R 00" ∷
    bytes "F 00001000 00001004 - - 000" ∷
    bytes "B 00001000 00001004" ∷
    bytes "F 00001004 00001008 - - 000" ∷
    bytes "B 00001004 00001008" ∷ []) ∷ []

pub cases_hold : map computed cases ≡ cases
unfolding mark_in mark is_new reaches cut whole sample Sequences.check_prologue_sequence Sequences.check_epilogue_sequence Sequences.prologue_pairs Sequences.epilogue_pairs Sequences.is_end_of_seq Words.is_branch Words.is_mflr Words.is_mtlr Words.is_stwu Words.is_stw Words.is_addi Words.is_or Words.primary Words.extended Words.field_d Words.field_a Words.field_b Words.field_spr Registers.names_r0_or_r1 Registers.registers_named Registers.fields_named Registers.primary_table Registers.extended_table Registers.arithmetic_table Registers.extended_rows if
cases_hold = refl

-- a branch word at an address, its count of words, and its target
pub record Branch : Type 0 where
  pub word : ℕ
  pub address : ℕ
  pub count : ℤ
  pub target : ℕ

abbrev pub branches : List Branch
branches =
    -- b.+8, b.-4, and the two ends of the reach
    record { word = 0x48000008; address = 0x1000; count = pos 2; target = 0x1008 } ∷
    record { word = 0x4BFFFFFC; address = 0x1000; count = negsuc 0; target = 0xFFC } ∷
    record { word = 0x49FFFFFC; address = 0x1000; count = pos 8388607; target = 0x2000FFC } ∷
    record { word = 0x4A000000; address = 0x1000; count = negsuc 8388607; target = 0xFE001000 } ∷
    -- ba: from 0
    record { word = 0x48000102; address = 0x1000; count = pos 64; target = 0x100 } ∷
    record { word = 0x4BFFFF02; address = 0x1000; count = negsuc 63; target = 0xFFFFFF00 } ∷ []

abbrev taken : Branch → Branch
taken b = record { word = b.word; address = b.address; count = Branches.branch_words b.word; target = Branches.branch_dest b.word b.address }

pub branches_hold : map taken branches ≡ branches
unfolding Branches.branch_words Branches.branch_distance Branches.branch_dest Branches.is_absolute if
branches_hold = refl
