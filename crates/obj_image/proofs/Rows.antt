-- The rows of a list, of any width: one by one, by index, and where the last is not whole. Assumes nothing.
use Prim.Native.Nat.{ℕ, zero, suc, ◌+◌, ◌*◌, ◌-◌, ◌/◌, ◌%◌, ◌<◌, ◌≤◌}
use mathlib.Core.Path.{◌≡◌, refl, sym, ap, ◌∙◌}
use mathlib.Core.Bool.{Bool, true, false, false≢true, ◌&&◌, and-false}
use mathlib.Core.List.{List, [], ◌∷◌, map}
use native.Mathlib.Nat.{div-eq-sub-div, div-eq_of_lt, mod-eq-sub-mod, div-add-mod', mul-add-div_right, zero-mod, zero-mul, suc-mul}
use native.Mathlib.Numerals.{add-one}
use native.Mathlib.Omega.{arith}
use lib.Dec.{ltb, eqb}
use borrow.Author.Tests.{ltb-true, ltb-false, eqb-true, eqb-false}
use lib.ListN.{length, take, drop, get_or, length-take, length-drop}
use lib.Seq.{drop-drop, drop-cons}
use Rattle.std.specs.Simd.{first_chunks}
use Rattle.rules.specs.Check.{all}
use Rattle.obj_image.specs.Lent.{rows, rows_from}

pub middle_false : (a b : Bool) → (a && false && b) ≡ false
middle_false true b = refl
middle_false false b = refl

-- below, or not
pub by_less : {C : Type 0} (n m : ℕ) → (n < m → C) → (m ≤ n → C) → C
by_less {C} n m f g = go (ltb n m) refl
  where
    go : (b : Bool) → ltb n m ≡ b → C
    go true e = f (ltb-true n m e)
    go false e = g (ltb-false n m e)

-- one row less
count_next : (n w : ℕ) → 0 < w → 0 < n → (n + (w - 1)) / w ≡ suc ((n - w + (w - 1)) / w)
count_next n w pos some =
    let e : (n + (w - 1)) / w ≡ (n + (w - 1) - w) / w + 1 = div-eq-sub-div pos (omega arith) in
    let f : (n + (w - 1) - w) / w ≡ (n - w + (w - 1)) / w = by_less n w short long in
    omega arith
  where
    short : n < w → (n + (w - 1) - w) / w ≡ (n - w + (w - 1)) / w
    short h = div-eq_of_lt {n = n + (w - 1) - w} {m = w} (omega arith) ∙ sym (div-eq_of_lt {n = n - w + (w - 1)} {m = w} (omega arith))

    long : w ≤ n → (n + (w - 1) - w) / w ≡ (n - w + (w - 1)) / w
    long h = ap (λ (k : ℕ). k / w) (omega arith)

module _ {A : Type 0} (w : ℕ) (pos : 0 < w) (row : List ℕ → A) where
  pub rows_length : (l : List ℕ) → length (rows w row l) ≡ (length l + (w - 1)) / w
  unfolding rows
  rows_length l = go ((length l + (w - 1)) / w) l
    where
      go : (n : ℕ) (l : List ℕ) → length (rows_from w row n l) ≡ n
      go zero l = refl
      go (suc n) l = ap suc (go n (drop w l))

  pub rows_next : (l : List ℕ) → 0 < length l → rows w row l ≡ row (take w l) ∷ rows w row (drop w l)
  unfolding rows
  rows_next l h = rw (length-drop w l, count_next (length l) w pos h)

  pub rows_none : (l : List ℕ) → length l ≡ 0 → rows w row l ≡ []
  unfolding rows
  rows_none l h = let e : (length l + (w - 1)) / w ≡ 0 = div-eq_of_lt {n = length l + (w - 1)} {m = w} (omega arith) in rw e

  module _ (l : List ℕ) (at : ℕ) where
    pub row_next : at < length l → rows w row (drop at l) ≡ row (take w (drop at l)) ∷ rows w row (drop (at + w) l)
    row_next h = rw (← drop-drop w at l) (rows_next (drop at l) (rw length-drop (omega arith)))

    pub row_end : length l ≤ at → rows w row (drop at l) ≡ []
    row_end h = rows_none (drop at l) (rw length-drop (omega arith))

  -- by index
  pub rows_drop : (l : List ℕ) (i : ℕ) → drop i (rows w row l) ≡ rows w row (drop (i * w) l)
  rows_drop l zero = rw (zero-mul w)
  rows_drop l (suc i) = by_less 0 (length l) (some (rows_drop (drop w l) i)) none
    where
      step : suc i * w ≡ w + i * w
      step = suc-mul i w ∙ omega arith

      some : drop i (rows w row (drop w l)) ≡ rows w row (drop (i * w) (drop w l)) → 0 < length l → drop (suc i) (rows w row l) ≡ rows w row (drop (suc i * w) l)
      some e h = rw (rows_next l h, step, ← drop-drop (i * w) w l) e

      none : length l ≤ 0 → drop (suc i) (rows w row l) ≡ rows w row (drop (suc i * w) l)
      none h =
          let z : length (drop (suc i * w) l) ≡ 0 = rw length-drop (omega arith) in
          rw (rows_none l (omega arith), rows_none (drop (suc i * w) l) z)

  -- the last row is not whole
  module _ (p : A → Bool) (short : (c : List ℕ) → length c < w → p (row c) ≡ false) where
    ends_short : (n : ℕ) (l : List ℕ) → length l ≤ n → (length l % w ≡ 0 → ⊥) → all p (rows w row l) ≡ false
    ends_short zero l le h = absurd (h (let e : length l ≡ 0 = omega arith in rw e (zero-mod w)))
    ends_short (suc n) l le h = by_less 0 (length l) (some (ends_short n (drop w l))) none
      where
        none : length l ≤ 0 → all p (rows w row l) ≡ false
        none z = absurd (h (let e : length l ≡ 0 = omega arith in rw e (zero-mod w)))

        some : (length (drop w l) ≤ n → (length (drop w l) % w ≡ 0 → ⊥) → all p (rows w row (drop w l)) ≡ false) → 0 < length l → all p (rows w row l) ≡ false
        some again s = rw (rows_next l s) (by_less (length l) w last more)
          where
            last : length l < w → (p (row (take w l)) && all p (rows w row (drop w l))) ≡ false
            last lt = rw (short (take w l) (rw length-take (omega arith)))

            more : w ≤ length l → (p (row (take w l)) && all p (rows w row (drop w l))) ≡ false
            more ge = rw (again (rw length-drop (omega arith)) (λ z. h (mod-eq-sub-mod ge ∙ rw length-drop at z))) (and-false (p (row (take w l))))

    pub not_whole : (l : List ℕ) → (length l % w ≡ 0 → ⊥) → false ≡ all p (rows w row l)
    not_whole l h = sym (ends_short (length l) l (omega arith) h)

    pub whole_of : (l : List ℕ) → all p (rows w row l) ≡ true → length l % w ≡ 0
    whole_of l h = go (eqb (length l % w) 0) refl
      where
        go : (b : Bool) → eqb (length l % w) 0 ≡ b → length l % w ≡ 0
        go true e = eqb-true _ _ e
        go false e = absurd (false≢true (not_whole l (eqb-false _ _ e) ∙ h))

  -- how many rows there are, where all are whole
  pub rows_count : (l : List ℕ) → length l % w ≡ 0 → length l / w ≡ length (rows w row l)
  rows_count l h =
      let q : ℕ = length l / w in
      let e : length l + (w - 1) ≡ q * w + (w - 1) = omega (arith, div-add-mod' (length l) w) in
      let z : (w - 1) / w ≡ 0 = div-eq_of_lt {n = w - 1} {m = w} (omega arith) in
      let f : (q * w + (w - 1)) / w ≡ q + (w - 1) / w = mul-add-div_right pos q (w - 1) in
      sym (rows_length l ∙ ap (λ (k : ℕ). k / w) e ∙ f ∙ omega arith)

-- what stands at an index, from what is left there
pub getD_mapped : {A B : Type 0} (f : A → B) (d : B) (l : List A) (i : ℕ) (x : A) (t : List A) → drop i l ≡ x ∷ t → get_or (map f l) i d ≡ f x
getD_mapped f d l zero x t e = rw e refl
getD_mapped f d [] (suc i) x t e = absurd (let z : ◌≡◌ {A = ℕ} 0 1 = cc in omega arith)
getD_mapped f d (y ∷ l) (suc i) x t e = getD_mapped f d l i x t e

-- the numbers of a row that begins at an index
module _ (l : List ℕ) (at : ℕ) where
  abbrev pub numbers : ℕ → ℕ → List ℕ
  numbers j zero = []
  numbers j (suc n) = get_or l (at + j) 0 ∷ numbers (suc j) n

  numbers_are : (j n : ℕ) → at + j + n ≤ length l → take n (drop (at + j) l) ≡ numbers j n
  numbers_are j zero h = refl
  numbers_are j (suc n) h =
      let next : suc (at + j) ≡ at + suc j = omega arith in
      rw (drop-cons l (at + j) 0 (omega arith), next, numbers_are (suc j) n (omega arith))

  row_numbers : (n : ℕ) → at + suc n ≤ length l → take (suc n) (drop at l) ≡ get_or l at 0 ∷ numbers 1 n
  row_numbers n h = rw (drop-cons l at 0 (omega arith), ← add-one at, numbers_are 1 n (omega arith))

  pub row_here : {A : Type 0} (n : ℕ) (row : List ℕ → A) → at + suc n ≤ length l → rows (suc n) row (drop at l) ≡ row (get_or l at 0 ∷ numbers 1 n) ∷ rows (suc n) row (drop (at + suc n) l)
  row_here n row h = rw (← row_numbers n h) (row_next (suc n) (omega arith) row l at (omega arith))

-- ---- whole rows, as std cuts them

pub chunk_at : (w n : ℕ) (l : List ℕ) (i : ℕ) → i < n → get_or (first_chunks w n l) i [] ≡ take w (drop (i * w) l)
chunk_at w zero l i h = absurd (omega arith)
chunk_at w (suc n) l zero h = rw (zero-mul w) refl
chunk_at w (suc n) l (suc i) h =
    let step : suc i * w ≡ w + i * w = suc-mul i w ∙ omega arith in
    chunk_at w n (drop w l) i (omega arith) ∙ rw (step, ← drop-drop (i * w) w l) refl

module _ {A : Type 0} (w : ℕ) (pos : 0 < w) (row read : List ℕ → A) (same : (c : List ℕ) → length c ≡ w → row c ≡ read c) where
  chunks_are : (n : ℕ) (l : List ℕ) → n * w ≤ length l → rows_from w row n l ≡ map read (first_chunks w n l)
  chunks_are zero l h = refl
  chunks_are (suc n) l h =
      let step : suc n * w ≡ w + n * w = suc-mul n w ∙ omega arith in
      rw (same (take w l) (rw length-take (omega arith)), chunks_are n (drop w l) (rw length-drop (omega arith))) refl

  pub rows_chunks : (l : List ℕ) → length l % w ≡ 0 → rows w row l ≡ map read (first_chunks w (length l / w) l)
  unfolding rows
  rows_chunks l h =
      let e : length l ≡ length l / w * w = omega (arith, div-add-mod' (length l) w) in
      rw (← rows_length w pos row l, ← rows_count w pos row l h) (chunks_are (length l / w) l (omega arith))
