-- Whether the fields of a code name r0 or r1, bit by bit; and the code of a word's fields. Assumes nothing.
use Prim.Native.Nat.{ℕ, zero, suc, ◌*◌, ◌%◌, ◌/◌, ◌^◌, ◌<◌}
use mathlib.Core.Path.{◌≡◌, refl, sym, ◌∙◌, ap, subst}
use mathlib.Core.Bool.{Bool, true, false, ◌&&◌, ◌||◌, or_assoc, or-false}
use mathlib.Core.List.{List, [], ◌∷◌, ◌++◌}
use native.Mathlib.Omega.{arith}
use borrow.Author.Tests.{eq-eqb, ne_eqb}
use lib.ListN.{get_or}
use lib.Dec.{leb, eqb, leb-suc-zero, leb-suc-suc, eqb-suc-zero, eqb-suc-suc}
use Rattle.rules.specs.Choice.{if, any}
use Rattle.rules.specs.Words.{primary, extended, is_branch, field_d, field_a, field_b}
use Rattle.rules.specs.Registers.{Field, register, registers, fields_named, fields_in, primary_table, extended_rows}
use Rattle.ppc.specs.Codes.{bit, with, fields_of_code, low_register, is_branch_primary, is_branch_extended, IsPrimary, IsCode, digit, extended_codes, branch_bits}
use Rattle.ppc.proofs.Table.{fields_at, branch_at}

any_append : {A : Type 0} (p : A → Bool) (l m : List A) → any p (l ++ m) ≡ (any p l || any p m)
unfolding if
any_append p [] m = refl
any_append p (x ∷ l) m = by (p x) (any_append p l m)
  where
    by : (b : Bool) → any p (l ++ m) ≡ (any p l || any p m) → if b true (any p (l ++ m)) ≡ (if b true (any p l) || any p m)
    by true e = refl
    by false e = e

one : (n : ℕ) → any (λ r. leb r 1) (n ∷ []) ≡ leb n 1
unfolding if
one n = by (leb n 1)
  where
    by : (b : Bool) → if b true false ≡ b
    by true = refl
    by false = refl

at_most_0 : (n : ℕ) → leb n 0 ≡ eqb n 0
at_most_0 zero = refl
at_most_0 (suc n) = leb-suc-zero n ∙ sym (eqb-suc-zero n)

-- a number that is not 0 is at most 1 where it is 1
one_or_0 : (n : ℕ) → any (λ r. leb r 1) (if (eqb n 0) [] (n ∷ [])) ≡ eqb n 1
unfolding if
one_or_0 zero = refl
one_or_0 (suc n) = rw eqb-suc-zero (one (suc n) ∙ leb-suc-suc n 0 ∙ at_most_0 n ∙ sym (eqb-suc-suc n 0))

low_with : (b : Bool) (f : Field) (fs : List Field) (w : ℕ) → low_register (with b f fs) w ≡ (b && any (λ r. leb r 1) (register f w) || low_register fs w)
unfolding with if
low_with true f fs w = any_append (λ r. leb r 1) (register f w) (registers fs w)
low_with false f fs w = refl

pub code_low : (c w : ℕ) → (bit 0 c && leb (field_d w) 1 || bit 1 c && leb (field_a w) 1 || bit 2 c && eqb (field_a w) 1 || bit 3 c && leb (field_b w) 1) ≡ low_register (fields_of_code c) w
unfolding fields_of_code
code_low c w = simp (low_with, one, one_or_0, or_assoc, or-false)

pub primary_below : (w : ℕ) → primary w < 64
unfolding primary
primary_below w = omega arith

pub extended_below : (w : ℕ) → extended w < 1024
unfolding extended
extended_below w = omega arith

-- fields in the rows of 19: none
no_fields : fields_in primary_table 19 ≡ []
unfolding primary_table if
no_fields = refl

-- the code of a word, by its primary opcode, in the form of a contract: p and x are the word's opcodes, t what lies in a table, d a digit
module _ (w x : ℕ) (q : x ≡ extended w) where
  pub row_below : x / 16 < 64
  row_below = omega (arith, extended_below w)

  pub bits_below : x / 64 < 16
  bits_below = omega (arith, extended_below w)

  module _ (p t d : ℕ) (o : p ≡ primary w) where
    pub code_31 : p ≡ 31 → t ≡ get_or extended_codes (x / 16) 0 → d ≡ digit 4 (x % 16) t → IsCode w d
    unfolding fields_named is_branch if
    code_31 k et ed =
        let h : primary w ≡ 31 = sym o ∙ k in
        let e : d ≡ digit 4 (x % 16) (get_or extended_codes (x / 16) 0) = ed ∙ ap (digit 4 (x % 16)) et in
        let r : fields_of_code d ≡ fields_in extended_rows (extended w) = rw e (fields_at x (rw q (extended_below w))) ∙ ap (fields_in extended_rows) q in
        let s : d < 16 = omega arith in
        let b : d / 2 ^ 4 % 2 ^ 1 ≡ 0 = omega arith in
        record { fields = rw (eq-eqb _ _ h) r; branch = rw (h, b) refl; small = omega arith }

    pub code_19 : p ≡ 19 → t ≡ get_or branch_bits (x / 64) 0 → d ≡ digit 1 (x % 64) t → IsCode w (16 * d)
    unfolding fields_named is_branch is_branch_extended fields_of_code with if
    code_19 k et ed =
        let h : primary w ≡ 19 = sym o ∙ k in
        let e : d ≡ digit 1 (x % 64) (get_or branch_bits (x / 64) 0) = ed ∙ ap (digit 1 (x % 64)) et in
        let r : eqb d 1 ≡ is_branch_extended (extended w) = rw e (branch_at x (rw q (extended_below w))) ∙ ap is_branch_extended q in
        let s : d < 2 = omega arith in
        let b : 16 * d / 2 ^ 4 % 2 ^ 1 ≡ d = omega arith in
        record { fields = rw h (none d s ∙ sym no_fields); branch = rw (h, b) r; small = omega arith }
      where
        none : (d : ℕ) → d < 2 → fields_of_code (16 * d) ≡ []
        none zero k = refl
        none (suc zero) k = refl
        none (suc (suc d)) k = absurd (omega arith)

pub code_other : (w p c : ℕ) → p ≡ primary w → (p ≡ 31 → ⊥) → (p ≡ 19 → ⊥) → IsPrimary p c → IsCode w c
unfolding fields_named is_branch is_branch_primary if
code_other w p c o h g e =
    let r = subst (λ (y : ℕ). IsPrimary y c) o e in
    record {
      fields = rw (ne_eqb _ _ (λ i. h (o ∙ i))) r.fields;
      branch = rw (ne_eqb (primary w) 19 (λ i. g (o ∙ i))) (r.branch ∙ rest (eqb (primary w) 16) (eqb (primary w) 18));
      small = r.small;
    }
  where
    rest : (a b : Bool) → (a || b) ≡ (a || b || false || false)
    rest true b = refl
    rest false true = refl
    rest false false = refl

-- the four lowest bits say the fields
bit_0 : (c : ℕ) → c % 16 / 2 ^ 0 % 2 ^ 1 ≡ c / 2 ^ 0 % 2 ^ 1
bit_0 c = omega arith

bit_1 : (c : ℕ) → c % 16 / 2 ^ 1 % 2 ^ 1 ≡ c / 2 ^ 1 % 2 ^ 1
bit_1 c = omega arith

bit_2 : (c : ℕ) → c % 16 / 2 ^ 2 % 2 ^ 1 ≡ c / 2 ^ 2 % 2 ^ 1
bit_2 c = omega arith

bit_3 : (c : ℕ) → c % 16 / 2 ^ 3 % 2 ^ 1 ≡ c / 2 ^ 3 % 2 ^ 1
bit_3 c = omega arith

pub low_code : (c : ℕ) → fields_of_code (c % 16) ≡ fields_of_code c
unfolding fields_of_code
low_code c = rw (bit_0 c, bit_1 c, bit_2 c, bit_3 c)
