-- Instruction words by the PowerPC manual (Programming Environments, 32-bit): their fields, and what the walk asks of one word.
-- Bits are numbered as in the manual, from 0 at the left. A word is told by its primary and its extended opcode alone.
use Rattle.std.specs.Prelude.{ℕ, ◌+◌, ◌*◌, ◌/◌, ◌%◌, ◌^◌, Bool, ◌&&◌, ◌||◌, not, eqb}

-- n bits, the lowest of them at place p (counted from the right, from 0)
abbrev pub field : ℕ → ℕ → ℕ → ℕ
field p n w = w / 2 ^ p % 2 ^ n

-- bits 0 to 5
unfoldable pub primary : ℕ → ℕ
primary = field 26 6

-- bits 21 to 30
unfoldable pub extended : ℕ → ℕ
extended = field 1 10

-- bits 6 to 10: rD or rS
unfoldable pub field_d : ℕ → ℕ
field_d = field 21 5

-- bits 11 to 15: rA
unfoldable pub field_a : ℕ → ℕ
field_a = field 16 5

-- bits 16 to 20: rB
unfoldable pub field_b : ℕ → ℕ
field_b = field 11 5

-- bits 6 to 10 of a conditional branch: BO
unfoldable pub field_bo : ℕ → ℕ
field_bo = field 21 5

-- bits 11 to 20: the number of a special register, whose halves are exchanged in the word
unfoldable pub field_spr : ℕ → ℕ
field_spr w = 32 * field 11 5 w + field 16 5 w

-- "`blr` is 0x4E800020"
abbrev pub blr : ℕ
blr = 0x4E80_0020

-- "`nop` 0x60000000"
abbrev pub nop : ℕ
nop = 0x6000_0000

-- that word alone
unfoldable pub is_blr : ℕ → Bool
is_blr w = eqb w blr

-- that word alone
unfoldable pub is_nop : ℕ → Bool
is_nop w = eqb w nop

-- by primary opcode
abbrev pub is_op : ℕ → ℕ → Bool
is_op p w = eqb (primary w) p

-- by primary and extended opcode
abbrev pub is_ext : ℕ → ℕ → ℕ → Bool
is_ext p x w = eqb (primary w) p && eqb (extended w) x

-- bc, b, bclr, bcctr
unfoldable pub is_branch : ℕ → Bool
is_branch w = is_op 16 w || is_op 18 w || is_ext 19 16 w || is_ext 19 528 w

-- bclr, unless BO says that it always branches
unfoldable pub is_conditional_blr : ℕ → Bool
is_conditional_blr w = is_ext 19 16 w && not (eqb (field 2 1 (field_bo w)) 1 && eqb (field 4 1 (field_bo w)) 1)

-- rfi
unfoldable pub is_rfi : ℕ → Bool
is_rfi = is_ext 19 50

-- mfspr r0, LR
unfoldable pub is_mflr : ℕ → Bool
is_mflr w = is_ext 31 339 w && eqb (field_d w) 0 && eqb (field_spr w) 8

-- mtspr LR, r0
unfoldable pub is_mtlr : ℕ → Bool
is_mtlr w = is_ext 31 467 w && eqb (field_d w) 0 && eqb (field_spr w) 8

-- stwu or stwux of r1 on r1
unfoldable pub is_stwu : ℕ → Bool
is_stwu w = (is_op 37 w || is_ext 31 183 w) && eqb (field_d w) 1 && eqb (field_a w) 1

-- stw of r0 on r1
unfoldable pub is_stw : ℕ → Bool
is_stw w = is_op 36 w && eqb (field_d w) 0 && eqb (field_a w) 1

-- addi r1, r1
unfoldable pub is_addi : ℕ → Bool
is_addi w = is_op 14 w && eqb (field_d w) 1 && eqb (field_a w) 1

-- or whose bits 6 to 10, the source register, are r1, as the Rust reads it
unfoldable pub is_or : ℕ → Bool
is_or w = is_ext 31 444 w && eqb (field_d w) 1

-- lwz of r1
unfoldable pub is_lwz : ℕ → Bool
is_lwz w = is_op 32 w && eqb (field_d w) 1

-- blr, b without link, rfi, addi r1, r1, or lwz r1 with a base other than r1
unfoldable pub is_function_terminator : ℕ → Bool
is_function_terminator w =
    is_blr w || (is_op 18 w && eqb (field 0 1 w) 0) || is_rfi w || is_addi w || (is_lwz w && not (eqb (field_a w) 1))
