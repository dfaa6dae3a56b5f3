-- Digits of a number, one by one, from the last.
use Rattle.std.proofs.Common.{◌≡◌, ◌≢◌, sym, ap₂, ◌∙◌, List, [], ◌∷◌, ◌++◌, ℕ, suc, ◌+◌, ◌-◌, ◌/◌, ◌%◌, ◌<◌, ◌≤◌, arith, length, drop, get_or, set, get_or-set_other, drop-cons}
use Rattle.std.proofs.lemmas.List.{append_assoc, length-set, drop-set}
use borrow.Author.Tests.{eq-eqb, ne_eqb, lt-ltb, le-ltb}
use Rattle.rules.specs.Choice.{if_true, if_false}
use Rattle.rules.specs.Lines.{digit, hex, address, address_or_dash}

pub digit_low : (d : ℕ) → d < 10 → 48 + d ≡ digit d
digit_low d h = sym (if_true (lt-ltb d 10 h) _ _)

pub digit_high : (d : ℕ) → 10 ≤ d → 65 + (d - 10) ≡ digit d
digit_high d h = let e : 65 + (d - 10) ≡ 55 + d = omega arith in e ∙ sym (if_false (le-ltb d 10 h) _ _)

pub dash : (k : ℕ) → k ≡ 0 → address_or_dash k ≡ 45 ∷ []
dash k h = if_true (eq-eqb k 0 h) _ _

pub no_dash : (k : ℕ) → (k ≡ 0 → ⊥) → address_or_dash k ≡ address k
no_dash k h = if_false (ne_eqb k 0 h) _ _

-- ---- eight digits put behind a space, the last first

-- what is put from a place on, and the digits of what is left, are those of x
pub record Behind (x place left : ℕ) (row : List ℕ) : Type 0 where
  pub size : length row ≡ 9
  pub low : 1 ≤ place
  pub high : place ≤ 9
  pub first : get_or row 0 0 ≡ 32
  pub digits : hex (place - 1) left ++ drop place row ≡ hex 8 x

module _ {x place left : ℕ} {row : List ℕ} (b : Behind x place left row) where
  pub behind_next : {d : ℕ} → 1 < place → d ≡ digit (left % 16) → Behind x (place - 1) (left / 16) (set row (place - 1) d)
  behind_next {d} h e =
      let lt : place - 1 < length row = omega (arith, b.size, b.high) in
      let other : 0 ≢ place - 1 = omega arith in
      let n : ℕ = place - 1 - 1 in
      let one : place - 1 ≡ suc n = omega arith in
      let on : place - 1 + 1 ≡ place = omega arith in
      let was : hex (suc n) left ++ drop place row ≡ hex 8 x = rw one at b.digits in
      record {
        size = length-set row (place - 1) d ∙ b.size;
        low = omega arith;
        high = omega (arith, b.high);
        first = get_or-set_other row (place - 1) 0 d 0 other ∙ b.first;
        digits = rw (drop-set row (place - 1) d lt, e, on) (sym (append_assoc (hex n (left / 16)) (digit (left % 16) ∷ []) (drop place row)) ∙ was);
      }

  pub behind_all : place ≤ 1 → row ≡ 32 ∷ hex 8 x
  behind_all h =
      let one : place ≡ 1 = omega (arith, b.low) in
      let digits : drop 1 row ≡ hex 8 x = rw one at b.digits in
      let lt : 0 < length row = omega (arith, b.size) in
      drop-cons row 0 0 lt ∙ ap₂ (λ (k : ℕ) (l : List ℕ). k ∷ l) b.first digits
