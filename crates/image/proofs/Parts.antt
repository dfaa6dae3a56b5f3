-- The lists in the one list, by the numbers that are read of the header. Assumes nothing.
use Prim.Native.Nat.{ℕ, ◌+◌, ◌*◌, ◌-◌, ◌≤◌, ◌<◌}
use mathlib.Core.Path.{◌≡◌, refl, sym, ap, ◌∙◌}
use mathlib.Core.Bool.{Bool, true, false, ◌&&◌}
use mathlib.Core.List.{List, []}
use native.Mathlib.Omega.{arith}
use native.Mathlib.Nat.{mul-le-mul}
use lib.Dec.{leb, eqb}
use lib.ListN.{length, take, drop, get_or}
use borrow.Author.Tests.{leb-true, leb-false, eqb-true, eqb-false, le-leb, lt-leb, eq-eqb, ne_eqb}
use Rattle.rules.specs.Choice.{if_true, if_false}
use Rattle.image.specs.Lists.{KIND, READING, SECTIONS, ENTRY, RELOCATIONS, HEADER, head, part, inside, sections_of, entry_of}

-- so many rows of up to six numbers
pub few_numbers : (n w : ℕ) → n < 0x1_0000_0000 → w ≤ 6 → n * w ≤ 0x6_0000_0000
few_numbers n w h k =
    let n_fits : n ≤ 0x1_0000_0000 = omega arith in
    let m : n * w ≤ 0x1_0000_0000 * 6 = mul-le-mul n_fits k in
    omega arith

-- ---- a number of the header

pub head_read : (i : List ℕ) (h x : ℕ) → HEADER ≤ length i → x ≡ get_or i h 0 → x ≡ head i h
unfolding head
head_read i h x k e = e ∙ sym (if_true (le-leb HEADER (length i) k) _ _)

pub head_none : (i : List ℕ) (h : ℕ) → length i < HEADER → 0 ≡ head i h
unfolding head
head_none i h k = sym (if_false (lt-leb HEADER (length i) k) _ _)

-- one that is not 0 is of a header that is whole
pub whole_by : (i : List ℕ) (h : ℕ) → (head i h ≡ 0 → ⊥) → HEADER ≤ length i
whole_by i h n = go (leb HEADER (length i)) refl
  where
    go : (t : Bool) → leb HEADER (length i) ≡ t → HEADER ≤ length i
    go true e = leb-true _ _ e
    go false e = absurd (n (sym (head_none i h (leb-false _ _ e))))

-- ---- a list

module _ (i : List ℕ) (h w a n : ℕ) (place : a ≡ head i h) (count : n ≡ head i (h + 1)) where
  pub part_inside : a + n * w ≤ length i → take (a + n * w - a) (drop a i) ≡ part i h w
  unfolding part
  part_inside k =
      let e : a + n * w - a ≡ n * w = omega arith in
      let t : inside i h w ≡ true = le-leb _ _ (rw (place, count) at k) in
      rw (e, place, count) (sym (if_true t _ _))

  pub part_outside : length i < a + n * w → take 5 i ≡ part i h w
  unfolding part
  part_outside out =
      let t : inside i h w ≡ false = lt-leb _ _ (rw (place, count) at out) in
      sym (if_false t _ _)

  -- a list that does not lie inside is of a header that is whole
  pub whole_outside : length i < a + n * w → 5 ≤ length i
  whole_outside out = go (eqb a 0) refl (eqb n 0) refl
    where
      go : (s : Bool) → eqb a 0 ≡ s → (t : Bool) → eqb n 0 ≡ t → 5 ≤ length i
      go false e t f = omega (arith, whole_by i h (λ z. eqb-false _ _ e (place ∙ z)))
      go true e false f = omega (arith, whole_by i (h + 1) (λ z. eqb-false _ _ f (count ∙ z)))
      go true e true f =
          let za : a ≡ 0 = eqb-true _ _ e in
          let zn : n ≡ 0 = eqb-true _ _ f in
          let none : n * w ≡ 0 = ap (λ (y : ℕ). y * w) zn ∙ omega arith in
          absurd (omega arith)

-- ---- the sections

module _ (i : List ℕ) (k m : ℕ) (is_k : k ≡ head i KIND) (is_m : m ≡ head i (RELOCATIONS + 1)) where
  pub sections_are : (s : List ℕ) → (eqb k 0 && eqb m 0) ≡ true → s ≡ part i SECTIONS 4 → s ≡ sections_of i
  unfolding sections_of
  sections_are s t e = e ∙ sym (if_true (rw (is_k, is_m) at t) _ _)

  pub no_sections : (eqb k 0 && eqb m 0) ≡ false → [] ≡ sections_of i
  unfolding sections_of
  no_sections t = sym (if_false (rw (is_k, is_m) at t) _ _)

-- ---- the entry point

module _ (i : List ℕ) (k : ℕ) (is_k : k ≡ head i READING) where
  pub entry_is : (s : List ℕ) → k ≡ 0 → s ≡ part i ENTRY 1 → s ≡ entry_of i
  unfolding entry_of
  entry_is s z e = e ∙ sym (if_true (eq-eqb _ _ (sym is_k ∙ z)) _ _)

  pub no_entry : (k ≡ 0 → ⊥) → take 5 i ≡ entry_of i
  unfolding entry_of
  no_entry n = sym (if_false (ne_eqb _ _ (λ z. n (is_k ∙ z))) _ _)

  pub whole_refused : (k ≡ 0 → ⊥) → 5 ≤ length i
  whole_refused n = omega (arith, whole_by i READING (λ z. n (is_k ∙ z)))
