-- What the constant tables hold. A code of four bits says which fields of a word name registers; one bit more says that it is a branch.
use Rattle.std.specs.Prelude.{ℕ, zero, suc, ◌+◌, ◌*◌, ◌/◌, ◌%◌, ◌^◌, ◌<◌, ◌≡◌, Bool, ◌||◌, List, [], ◌∷◌, map, leb, eqb}
use Rattle.rules.specs.Choice.{if, any}
use Rattle.rules.specs.Words.{field, is_branch}
use Rattle.rules.specs.Registers.{Field, r_d, r_a, r_a_or_0, r_b, fields_in, fields_named, registers, primary_table, extended_rows}

-- bit k of a code, counted from the right
abbrev pub bit : ℕ → ℕ → Bool
bit k c = eqb (field k 1 c) 1

-- a field before others, if a test holds
unfoldable pub with : Bool → Field → List Field → List Field
with b f fs = if b (f ∷ fs) fs

-- the fields that a code stands for
unfoldable pub fields_of_code : ℕ → List Field
fields_of_code c = with (bit 0 c) r_d (with (bit 1 c) r_a (with (bit 2 c) r_a_or_0 (with (bit 3 c) r_b [])))

-- one of the fields names r0 or r1
abbrev pub low_register : List Field → ℕ → Bool
low_register fs w = any (λ r. leb r 1) (registers fs w)

-- the opcodes of branches: primary ones, and extended ones under 19
unfoldable pub is_branch_primary : ℕ → Bool
is_branch_primary x = eqb x 16 || eqb x 18

unfoldable pub is_branch_extended : ℕ → Bool
is_branch_extended x = eqb x 16 || eqb x 528

-- a code of these fields, of a branch or not
pub record Says (c : ℕ) (l : List Field) (b : Bool) : Type 0 where
  pub fields : fields_of_code c ≡ l
  pub branch : bit 4 c ≡ b
  pub small : c < 32

-- the code of a primary opcode
abbrev pub IsPrimary : ℕ → ℕ → Type 0
IsPrimary x c = Says c (fields_in primary_table x) (is_branch_primary x)

-- the code of a word
abbrev pub IsCode : ℕ → ℕ → Type 0
IsCode w c = Says c (fields_named w) (is_branch w)

-- ---- tables of small numbers

-- the code of a list of fields
abbrev pub weight : Field → ℕ
weight r_d = 1
weight r_a = 2
weight r_a_or_0 = 4
weight r_b = 8

abbrev pub code_of : List Field → ℕ
code_of [] = 0
code_of (f ∷ fs) = weight f + code_of fs

-- n numbers from i
abbrev pub from : ℕ → ℕ → List ℕ
from i zero = []
from i (suc n) = i ∷ from (suc i) n

-- digit k of b bits of a number, counted from the right
abbrev pub digit : ℕ → ℕ → ℕ → ℕ
digit b k n = n / 2 ^ (b * k) % 2 ^ b

abbrev pub packed : ℕ → List ℕ → ℕ
packed b [] = 0
packed b (d ∷ ds) = d + 2 ^ b * packed b ds

-- a table of digits of b bits by opcode, m of them to a number, n numbers
unfoldable pub digits : ℕ → ℕ → ℕ → (ℕ → ℕ) → List ℕ
digits b m n f = map (λ j. packed b (map f (from (m * j) m))) (from 0 n)

-- the codes of the primary opcodes
unfoldable pub primary_codes : List ℕ
primary_codes = map (λ x. code_of (fields_in primary_table x) + if (is_branch_primary x) 16 0) (from 0 64)

-- the codes of the extended opcodes under 31, sixteen to a number
unfoldable pub extended_codes : List ℕ
extended_codes = digits 4 16 64 (λ x. code_of (fields_in extended_rows x))

-- the bits of the extended opcodes under 19 that are branches, 64 to a number
unfoldable pub branch_bits : List ℕ
branch_bits = digits 1 64 16 (λ x. if (is_branch_extended x) 1 0)
