-- Setting a bit of an array of words: what each bit is afterwards.
use Prim.Native.Nat.{ℕ, zero, suc, ◌+◌, ◌-◌, ◌/◌, ◌%◌, ◌^◌, ◌<◌, max}
use mathlib.Core.Path.{◌≡◌, refl, sym, ◌∙◌, ap, fun_ext}
use mathlib.Core.Bool.{Bool, true, false}
use mathlib.Core.List.{List}
use native.Mathlib.Omega.{arith}
use native.Mathlib.Decide.{ℕ_discrete, dec_lt}
use native.Mathlib.Nat.{div-eq_of_lt, div_self, pow-suc, mul-mod_left}
use borrow.Author.Tests.{eq-eqb, ne_eqb}
use lib.Dec.{eqb}
use lib.Pow.{pow-add, shl-shr, pow-lt, pow_pos}
use lib.Bits.{bit_or, or_shr, or_mod, or_zero_l}
use lib.ListN.{get_or, set, length, replicate}
use lib.Seq.{get_or-set_same, get_or-set_other}
use Rattle.rules.specs.Choice.{if}
use Rattle.rules.specs.Walk.{with_one}
use Rattle.worklist.specs.Bits.{bit}

-- digit j of 2 ^ k
power_same : (k : ℕ) → 2 ^ k / 2 ^ k % 2 ≡ 1
power_same k = rw (div_self (pow_pos k)) refl

power_above : (k j : ℕ) → k < j → 2 ^ k / 2 ^ j % 2 ≡ 0
power_above k j h = rw (div-eq_of_lt (pow-lt h)) refl

power_below : (m j : ℕ) → 2 ^ (suc m + j) / 2 ^ j % 2 ≡ 0
power_below m j = rw (pow-add 2 (suc m) j, shl-shr, pow-suc, mul-mod_left)

power_other : (k j : ℕ) → (j ≡ k → ⊥) → 2 ^ k / 2 ^ j % 2 ≡ 0
power_other k j ne = go (dec_lt k j)
  where
    go : Dec (k < j) → 2 ^ k / 2 ^ j % 2 ≡ 0
    go (yes h) = power_above k j h
    go (no h) = let e : k ≡ suc (k - suc j) + j = omega arith in rw e (power_below (k - suc j) j)

max_two : (x y : ℕ) → x < 2 → y < 2 → bit_or x y ≡ max x y
max_two zero y hx hy = or_zero_l y ∙ omega arith
max_two (suc zero) zero hx hy = refl
max_two (suc zero) (suc zero) hx hy = refl
max_two (suc zero) (suc (suc y)) hx hy = absurd (omega arith)
max_two (suc (suc x)) y hx hy = absurd (omega arith)

or_digit : (a b j : ℕ) → bit_or a b / 2 ^ j % 2 ≡ max (a / 2 ^ j % 2) (b / 2 ^ j % 2)
or_digit a b j = rw (or_shr) (or_mod (a / 2 ^ j) (b / 2 ^ j) 1 ∙ max_two _ _ (omega arith) (omega arith))

digit_set : (a k j : ℕ) → eqb (bit_or a (2 ^ k) / 2 ^ j % 2) 1 ≡ if (eqb j k) true (eqb (a / 2 ^ j % 2) 1)
unfolding if
digit_set a k j = go (ℕ_discrete j k)
  where
    go : Dec (j ≡ k) → eqb (bit_or a (2 ^ k) / 2 ^ j % 2) 1 ≡ if (eqb j k) true (eqb (a / 2 ^ j % 2) 1)
    go (yes e) = rw (eq-eqb j k e) (eq-eqb (bit_or a (2 ^ k) / 2 ^ j % 2) 1 (rw (or_digit, e, power_same) (omega arith)))
    go (no n) = rw (ne_eqb j k n, or_digit, power_other k j n) (let e : max (a / 2 ^ j % 2) 0 ≡ a / 2 ^ j % 2 = omega arith in ap (λ (x : ℕ). eqb x 1) e)

-- the words of v, with the bit i set
pub bit_set : (v : List ℕ) (i : ℕ) → i / 32 < length v
    → bit (set v (i / 32) (bit_or (get_or v (i / 32) 0) (2 ^ (i % 32)))) ≡ with_one (bit v) i
unfolding bit with_one if
bit_set v i h = fun_ext λ j. go j (ℕ_discrete (j / 32) (i / 32))
  where
    same_test : (j : ℕ) → j / 32 ≡ i / 32 → eqb (j % 32) (i % 32) ≡ eqb j i
    same_test j e = by (ℕ_discrete j i)
      where
        by : Dec (j ≡ i) → eqb (j % 32) (i % 32) ≡ eqb j i
        by (yes q) = rw q (eq-eqb (i % 32) (i % 32) refl ∙ sym (eq-eqb i i refl))
        by (no n) = ne_eqb (j % 32) (i % 32) (λ m. n (omega arith)) ∙ sym (ne_eqb j i n)

    go : (j : ℕ) → Dec (j / 32 ≡ i / 32)
        → eqb (get_or (set v (i / 32) (bit_or (get_or v (i / 32) 0) (2 ^ (i % 32)))) (j / 32) 0 / 2 ^ (j % 32) % 2) 1
        ≡ if (eqb j i) true (eqb (get_or v (j / 32) 0 / 2 ^ (j % 32) % 2) 1)
    go j (yes e) = rw (e, get_or-set_same, digit_set) (ap (λ (b : Bool). if b true (eqb (get_or v (i / 32) 0 / 2 ^ (j % 32) % 2) 1)) (same_test j e))
    go j (no n) = let ne : j ≡ i → ⊥ = λ q. n (ap (λ (x : ℕ). x / 32) q) in rw (get_or-set_other v (i / 32) (j / 32) _ 0 n, ne_eqb j i ne)

-- no bit of words that are 0
none : (n k : ℕ) → get_or {A = ℕ} (replicate n 0) k 0 ≡ 0
none zero k = refl
none (suc n) zero = refl
none (suc n) (suc k) = none n k

pub bits_none : (n : ℕ) → bit (replicate n 0) ≡ λ i. false
unfolding bit
bits_none n = fun_ext λ i. rw (none n (i / 32), div-eq_of_lt (pow_pos (i % 32)))
