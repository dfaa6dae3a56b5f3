-- The target of a direct branch: its 24-bit field is a signed count of words, from the branch's own address or, in the absolute form, from 0.
use Rattle.std.specs.Prelude.{ℕ, suc, ◌-◌, ◌%◌, ◌^◌, Bool, ltb, eqb, ℤ, pos, negsuc, ◌+ℤ◌, ◌*ℤ◌}
use Rattle.std.proofs.Math.IntN.{sub_ℕ}
use Rattle.rules.specs.Choice.{if}
use Rattle.rules.specs.Words.{field}

-- a number of n + 1 bits, the highest of which has the weight -2 ^ n
abbrev pub signed : ℕ → ℕ → ℤ
signed n x = if (ltb x (2 ^ n)) (pos x) (sub_ℕ x (2 ^ suc n))

-- bits 6 to 29, as a signed count of words
unfoldable pub branch_words : ℕ → ℤ
branch_words w = signed 23 (field 2 24 w)

-- the same in bytes
unfoldable pub branch_distance : ℕ → ℤ
branch_distance w = pos 4 *ℤ branch_words w

-- bit 30: the count is from 0
unfoldable pub is_absolute : ℕ → Bool
is_absolute w = eqb (field 1 1 w) 1

-- an integer in 32 bits
abbrev pub in_32_bits : ℤ → ℕ
in_32_bits (pos n) = n % 0x1_0000_0000
in_32_bits (negsuc n) = 0xFFFF_FFFF - n % 0x1_0000_0000

-- the target of the branch w at the address a
unfoldable pub branch_dest : ℕ → ℕ → ℕ
branch_dest w a = in_32_bits (pos (if (is_absolute w) 0 a) +ℤ branch_distance w)
