-- Skip ranges by halving: of ranges that ascend, only the last that begins at an address or below it can hold it. Assumes nothing.
use Prim.Native.Nat.{ℕ, zero, suc, ◌+◌, ◌/◌, ◌≤◌, ◌<◌}
use mathlib.Core.Path.{◌≡◌, refl, sym, ap, ◌∙◌}
use mathlib.Core.Bool.{Bool, true, false, and-false}
use mathlib.Core.List.{List, [], ◌∷◌, map}
use native.Mathlib.Omega.{arith}
use lib.Dec.{ltb, leb}
use lib.ListN.{length, drop, get_or, length-map, get_or-map}
use lib.Seq.{drop-cons}
use borrow.Author.Tests.{ltb-true, ltb-false, leb-true, lt-leb, le-ltb}
use Rattle.rules.specs.Choice.{if, if_true, if_false}
use Rattle.rules.specs.Ordered.{self, rank, Rising}
use Rattle.rules.specs.Image as images
use Rattle.rules.specs.Image.{in_range}
use Rattle.rules.specs.Check as rules
use Rattle.rules.proofs.Tests.{and_left, and_right}
use Rattle.std.specs.Simd.{first_chunks}
use Rattle.obj_image.specs.Lent.{rows, skip_row, seen}
use Rattle.obj_rows.specs.Skips.{range_by, range_of, read_range, first_of, is_nonempty, Ascending, IsSkipped}
use Rattle.obj_rows.specs.declared.skips.Range.{Range}
use Rattle.obj_rows.proofs.SkipRows.{range_rows, past_in, skipped}

abbrev pub range_first : images.Range → ℕ
range_first r = r.first

abbrev tail : List images.Range → List images.Range
tail [] = []
tail (x ∷ rs) = rs

-- ranges that ascend, as rows
abbrev Nonempty : List images.Range → Type 0
Nonempty rs = rules.all is_nonempty rs ≡ true

abbrev Ordered : List images.Range → Type 0
Ordered rs = rules.chained (rules.comes_before (seen [])) rs ≡ true

ordered_tail : (x : images.Range) (rs : List images.Range) → Ordered (x ∷ rs) → Ordered rs
ordered_tail x [] h = refl
ordered_tail x (y ∷ rs) h = and_right (leb x.past y.first) _ h

ranges_rise : (rs : List images.Range) → Nonempty rs → Ordered rs → Rising self (map range_first rs)
ranges_rise [] p q = tt
ranges_rise (x ∷ []) p q = (tt, tt)
ranges_rise (x ∷ y ∷ rs) p q =
    let some : x.first < x.past = ltb-true _ _ (and_left _ _ p) in
    let after : x.past ≤ y.first = leb-true _ _ (and_left _ _ q) in
    (omega arith, ranges_rise (y ∷ rs) (and_right (is_nonempty x) _ p) (and_right (leb x.past y.first) _ q))

-- ---- the range that holds the address

-- how many begin at a or below it
abbrev begun : ℕ → List images.Range → ℕ
begun a rs = rank self (a + 1) (map range_first rs)

module _ (a : ℕ) where
  -- a range behind a does not hold it, nor does one that ends by a
  above_not : (x : images.Range) → a < x.first → in_range a x ≡ false
  above_not x h = rw (lt-leb x.first a h) refl

  below_not : (x : images.Range) → x.past ≤ a → in_range a x ≡ false
  below_not x h = rw (le-ltb a x.past h) (and-false (leb x.first a))

  -- where the first begins behind a, all do
  above_all : (rs : List images.Range) → Nonempty rs → Ordered rs → begun a rs ≡ 0 → past_in a rs ≡ a
  unfolding if
  above_all [] p q e = refl
  above_all (x ∷ []) p q e = go (ltb x.first (a + 1)) refl e
    where
      go : (b : Bool) → ltb x.first (a + 1) ≡ b → if b (suc (begun a [])) 0 ≡ 0 → past_in a (x ∷ []) ≡ a
      go true t z = absurd (omega arith)
      go false t z = let h : a + 1 ≤ x.first = ltb-false _ _ t in if_false (above_not x (omega arith)) _ _
  above_all (x ∷ y ∷ rs) p q e = go (ltb x.first (a + 1)) refl e (above_all (y ∷ rs) (and_right (is_nonempty x) _ p) (and_right (leb x.past y.first) _ q))
    where
      some : x.first < x.past
      some = ltb-true _ _ (and_left _ _ p)

      after : x.past ≤ y.first
      after = leb-true _ _ (and_left _ _ q)

      go : (b : Bool) → ltb x.first (a + 1) ≡ b → if b (suc (begun a (y ∷ rs))) 0 ≡ 0 → (begun a (y ∷ rs) ≡ 0 → past_in a (y ∷ rs) ≡ a) → past_in a (x ∷ y ∷ rs) ≡ a
      go true t z f = absurd (omega arith)
      go false t z f =
          let h : a + 1 ≤ x.first = ltb-false _ _ t in
          let k : begun a (y ∷ rs) ≡ 0 = if_false (le-ltb y.first (a + 1) (omega (arith, some, after))) _ _ in
          if_false (above_not x (omega arith)) _ _ ∙ f k

  -- the first is among those that begin at a or below it
  begins : (x : images.Range) (rs : List images.Range) (k : ℕ) → begun a (x ∷ rs) ≡ suc k → (x.first ≤ a) × (begun a rs ≡ k)
  unfolding if
  begins x rs k e = go (ltb x.first (a + 1)) refl e
    where
      go : (b : Bool) → ltb x.first (a + 1) ≡ b → if b (suc (begun a rs)) 0 ≡ suc k → (x.first ≤ a) × (begun a rs ≡ k)
      go true t z = let h : x.first < a + 1 = ltb-true _ _ t in (omega arith, omega arith)
      go false t z = absurd (omega arith)

  -- what the last that begins at a or below it says
  last_begun : (rs : List images.Range) → Nonempty rs → Ordered rs → (k : ℕ) (x : images.Range) (t : List images.Range) → begun a rs ≡ suc k → drop k rs ≡ x ∷ t → past_in a rs ≡ if (in_range a x) x.past a
  last_begun [] p q k x t e d = absurd (omega arith)
  last_begun (y ∷ rs) p q zero x t e d =
      let none : past_in a rs ≡ a = above_all rs (and_right (is_nonempty y) _ p) (ordered_tail y rs q) (begins y rs 0 e).1 in
      ap (past_in a) d ∙ ap (if (in_range a x) x.past) (sym (ap (past_in a) (ap tail d)) ∙ none)
  last_begun (y ∷ []) p q (suc k) x t e d = absurd (let z : ◌≡◌ {A = ℕ} 0 (suc k) = (begins y [] (suc k) e).1 in omega arith)
  last_begun (y ∷ z ∷ rs) p q (suc k) x t e d =
      let after : y.past ≤ z.first = leb-true _ _ (and_left _ _ q) in
      let b : begun a (z ∷ rs) ≡ suc k = (begins y (z ∷ rs) (suc k) e).1 in
      let low : z.first ≤ a = (begins z rs k b).0 in
      if_false (below_not y (omega arith)) _ _ ∙ last_begun (z ∷ rs) (and_right (is_nonempty y) _ p) (and_right (leb y.past z.first) _ q) k x t b d

-- ---- what skip_range returns

firsts_are : (c : List (List ℕ)) → map range_first (map read_range c) ≡ map first_of c
firsts_are [] = refl
firsts_are (x ∷ c) = ap (λ (l : List ℕ). first_of x ∷ l) (firsts_are c)

module _ (s : List ℕ) (asc : Ascending s) (c : List (List ℕ)) (cut : c ≡ first_chunks 2 (length s / 2) s) where
  ranges_are : rows 2 skip_row s ≡ map read_range c
  ranges_are = range_rows s asc.whole c cut

  nonempty : Nonempty (map read_range c)
  nonempty = rw (← ranges_are) asc.nonempty

  ordered : Ordered (map read_range c)
  ordered = rw (← ranges_are) asc.order

  pub firsts_rise : Rising self (map first_of c)
  firsts_rise = rw (← firsts_are c) (ranges_rise (map read_range c) nonempty ordered)

  module _ (a n : ℕ) (is : n ≡ rank self (a + 1) (map first_of c)) where
    begun_is : begun a (map read_range c) ≡ n
    begun_is = rw (firsts_are c) (sym is)

    pub none_begun : n ≡ 0 → IsSkipped s a a
    none_begun z = skipped s a a (rw ranges_are (sym (above_all a (map read_range c) nonempty ordered (begun_is ∙ z))))

    module _ (k : ℕ) (one : n ≡ suc k) (room : k < length c) (x : Range) (here : x ≡ range_by (get_or c k [])) where
      says : past_in a (rows 2 skip_row s) ≡ if (in_range a (range_of x)) x.past a
      says =
          let row : drop k (map read_range c) ≡ range_of x ∷ drop (suc k) (map read_range c) =
          drop-cons (map read_range c) k (read_range []) (rw length-map room) ∙ ap (λ (r : images.Range). r ∷ drop (suc k) (map read_range c)) (get_or-map read_range c k [] ∙ ap range_of (sym here)) in
          ap (past_in a) ranges_are ∙ last_begun a (map read_range c) nonempty ordered k (range_of x) _ (begun_is ∙ one) row

      module _ (b : Bool) (test : b ≡ in_range a (range_of x)) where
        pub last_holds : b ≡ true → IsSkipped s a x.past
        last_holds h = skipped s a x.past (sym (says ∙ if_true (sym test ∙ h) _ _))

        pub last_fails : b ≡ false → IsSkipped s a a
        last_fails h = skipped s a a (sym (says ∙ if_false (sym test ∙ h) _ _))
