-- A table is what its rows say: antt computes it for the whole table, and so it holds at each opcode. Assumes nothing.
use Prim.Native.Nat.{ℕ, zero, suc, ◌+◌, ◌*◌, ◌/◌, ◌%◌, ◌<◌}
use mathlib.Core.Path.{◌≡◌, refl, sym, ◌∙◌, ap}
use mathlib.Core.Bool.{Bool, true}
use mathlib.Core.List.{List, [], ◌∷◌, map}
use native.Mathlib.Omega.{arith}
use lib.Dec.{ltb, eqb}
use lib.ListN.{get_or}
use borrow.Author.Tests.{ltb-true}
use Rattle.rules.specs.Choice.{if}
use Rattle.rules.specs.Registers.{Field, fields_in, primary_table, extended_rows, extended_table, arithmetic_table}
use Rattle.ppc.specs.Codes.{bit, fields_of_code, with, from, digit, digits, primary_codes, extended_codes, branch_bits, is_branch_primary, is_branch_extended, IsPrimary}

-- the same list by two functions, of the entries and of their places
entry : {A B : Type 0} (f : A → B) (g : ℕ → B) (d : A) (xs : List A) (i n : ℕ) → map f xs ≡ map g (from i n) → (k : ℕ) → k < n → f (get_or xs k d) ≡ g (i + k)
entry f g d xs i zero e k h = absurd (omega arith)
entry f g d [] i (suc n) e k h = let z : ◌≡◌ {A = ℕ} 0 1 = cc in absurd (omega arith)
entry f g d (x ∷ xs) i (suc n) e zero h = let q : f x ≡ g i = cc in let j : i + 0 ≡ i = omega arith in rw j q
entry f g d (x ∷ xs) i (suc n) e (suc k) h =
    let q : map f xs ≡ map g (from (suc i) n) = cc in
    let j : i + suc k ≡ suc i + k = omega arith in rw j (entry f g d xs (suc i) n q k (omega arith))

from_at : (i n k : ℕ) → k < n → get_or (from i n) k 0 ≡ i + k
from_at i zero k h = absurd (omega arith)
from_at i (suc n) zero h = omega arith
from_at i (suc n) (suc k) h = from_at (suc i) n k (omega arith) ∙ omega arith

-- ---- by primary opcode

-- what a code says
record Read : Type 0 where
  fields : List Field
  branch : Bool
  small : Bool

abbrev read : ℕ → Read
read c = record { fields = fields_of_code c; branch = bit 4 c; small = ltb c 32 }

-- what it should say
abbrev meant : ℕ → Read
meant x = record { fields = fields_in primary_table x; branch = is_branch_primary x; small = true }

pub primary_at : (x : ℕ) → x < 64 → IsPrimary x (get_or primary_codes x 0)
unfolding primary_codes fields_of_code with if primary_table is_branch_primary
primary_at x h =
    let j : 0 + x ≡ x = omega arith in
    let e : read (get_or primary_codes x 0) ≡ meant x = rw j at (entry read meant 0 primary_codes 0 64 refl x h) in
    record { fields = ap (λ (r : Read). r.fields) e; branch = ap (λ (r : Read). r.branch) e; small = ltb-true _ 32 (ap (λ (r : Read). r.small) e) }

-- ---- by extended opcode: m digits of a number, each read by f, against what g says of the opcode

module _ {A : Type 0} (b m n : ℕ) (f : ℕ → A) (g : ℕ → A) (t : List ℕ) (right : map (λ c. map (λ k. f (digit b k c)) (from 0 m)) t ≡ map (λ j. map g (from (m * j) m)) (from 0 n)) where
  digit_at : (j k : ℕ) → j < n → k < m → f (digit b k (get_or t j 0)) ≡ g (m * j + k)
  digit_at j k hj hk =
      let i : 0 + j ≡ j = omega arith in
      let r : map (λ k. f (digit b k (get_or t j 0))) (from 0 m) ≡ map g (from (m * j) m) =
      rw i at (entry (λ c. map (λ k. f (digit b k c)) (from 0 m)) (λ j. map g (from (m * j) m)) 0 t 0 n right j hj) in
      let q : k ≡ get_or (from 0 m) k 0 = sym (from_at 0 m k hk ∙ omega arith) in
      ap (λ (k : ℕ). f (digit b k (get_or t j 0))) q ∙ entry (λ k. f (digit b k (get_or t j 0))) g 0 (from 0 m) (m * j) m r k hk

fields_right : map (λ c. map (λ k. fields_of_code (digit 4 k c)) (from 0 16)) extended_codes ≡ map (λ j. map (fields_in extended_rows) (from (16 * j) 16)) (from 0 64)
unfolding extended_codes digits fields_of_code with if extended_rows extended_table arithmetic_table
fields_right = refl

pub fields_at : (x : ℕ) → x < 1024 → fields_of_code (digit 4 (x % 16) (get_or extended_codes (x / 16) 0)) ≡ fields_in extended_rows x
fields_at x h =
    let e : 16 * (x / 16) + x % 16 ≡ x = omega arith in
    digit_at 4 16 64 fields_of_code (fields_in extended_rows) extended_codes fields_right (x / 16) (x % 16) (omega arith) (omega arith) ∙ ap (fields_in extended_rows) e

branches_right : map (λ c. map (λ k. eqb (digit 1 k c) 1) (from 0 64)) branch_bits ≡ map (λ j. map is_branch_extended (from (64 * j) 64)) (from 0 16)
unfolding branch_bits digits is_branch_extended if
branches_right = refl

pub branch_at : (x : ℕ) → x < 1024 → eqb (digit 1 (x % 64) (get_or branch_bits (x / 64) 0)) 1 ≡ is_branch_extended x
branch_at x h =
    let e : 64 * (x / 64) + x % 64 ≡ x = omega arith in
    digit_at 1 64 16 (λ d. eqb d 1) is_branch_extended branch_bits branches_right (x / 64) (x % 64) (omega arith) (omega arith) ∙ ap is_branch_extended e
