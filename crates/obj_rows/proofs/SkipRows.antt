-- Skip ranges: what each test and each loop over them has found at its returns. Assumes nothing.
use Prim.Native.Nat.{ℕ, ◌/◌, ◌%◌, ◌<◌}
use mathlib.Core.Path.{◌≡◌, refl, sym, ap, ◌∙◌}
use mathlib.Core.Bool.{Bool, true, false, ◌&&◌, not}
use mathlib.Core.List.{List, [], ◌∷◌, map}
use native.Mathlib.Omega.{arith}
use Rattle.std.specs.Simd.{first_chunks}
use lib.Dec.{leb, eqb}
use lib.ListN.{length, length-map}
use borrow.Author.Tests.{eq-eqb, ne_eqb, ltb-true}
use Rattle.rules.specs.Choice.{if, any}
use Rattle.rules.specs.Image as images
use Rattle.rules.specs.Image.{in_range, in_skipped_range}
use Rattle.rules.specs.Given.{image_of}
use Rattle.rules.specs.Check as rules
use Rattle.rules.specs.Map.{Capacity, past_range, skip_range}
use Rattle.rules.proofs.Tests.{and_right}
use Rattle.obj_image.specs.Lent.{Lent, rows, skip_row, given, image, seen}
use Rattle.obj_rows.specs.Skips.{read_range, IsSkipped}
use Rattle.obj_image.proofs.Rows.{rows_chunks, not_whole, middle_false}

-- ---- the range that holds an address

-- an empty image: the search for a range does not look at it
abbrev pub past_in : ℕ → List images.Range → ℕ
past_in a rs = past_range (seen []) (record { entries = 0; numbers = 0 }) a rs

past_any : (im : images.Image) (cap : Capacity) (a : ℕ) (rs : List images.Range) → past_range im cap a rs ≡ past_in a rs
past_any im cap a [] = refl
past_any im cap a (r ∷ rs) = ap (if (in_range a r) r.past) (past_any im cap a rs)

module _ (s : List ℕ) (a r : ℕ) (is : r ≡ past_in a (rows 2 skip_row s)) where
  pub skipped : IsSkipped s a r
  unfolding skip_range image_of given
  skipped l cap e = is ∙ sym (ap (λ (t : List ℕ). past_in a (rows 2 skip_row t)) e) ∙ sym (past_any (image l) cap a (rows 2 skip_row l.skips))

-- an address in a range is below where it ends
past_moves : (a : ℕ) (rs : List images.Range) → any (in_range a) rs ≡ not (eqb (past_in a rs) a)
unfolding if
past_moves a [] = rw (eq-eqb a a refl)
past_moves a (r ∷ rs) = go (in_range a r) refl (past_moves a rs)
  where
    go : (b : Bool) → in_range a r ≡ b → any (in_range a) rs ≡ not (eqb (past_in a rs) a) → if b true (any (in_range a) rs) ≡ not (eqb (if b r.past (past_in a rs)) a)
    go true e f = let h : a < r.past = ltb-true _ _ (and_right (leb r.first a) _ e) in rw (ne_eqb r.past a (λ q. omega arith))
    go false e f = f

pub in_skipped : (s : List ℕ) (a r : ℕ) → IsSkipped s a r → (l : Lent) → l.skips ≡ s → not (eqb r a) ≡ in_skipped_range (image l) a
unfolding in_skipped_range skip_range image_of given
in_skipped s a r is l e =
    let f : r ≡ past_in a (rows 2 skip_row l.skips) = is l (record { entries = 0; numbers = 0 }) e ∙ past_any (image l) (record { entries = 0; numbers = 0 }) a (rows 2 skip_row l.skips) in
    rw f (sym (past_moves a (rows 2 skip_row l.skips)))

-- ---- the tests

-- a range that is not whole is not aligned
pub not_a_skip : (im : images.Image) (c : List ℕ) → length c < 2 → rules.is_skip im (skip_row c) ≡ false
unfolding if
not_a_skip im c h = rw (ne_eqb (length c) 2 (omega arith)) refl

-- whole rows, as std cuts them
pub range_rows : (s : List ℕ) → length s % 2 ≡ 0 → (c : List (List ℕ)) → c ≡ first_chunks 2 (length s / 2) s → rows 2 skip_row s ≡ map read_range c
unfolding if
range_rows s whole c cut = rows_chunks 2 (omega arith) skip_row read_range (λ x h. rw h refl) s whole ∙ ap (map read_range) (sym cut)

module _ (im : images.Image) (s : List ℕ) where
  pub skips_are : length s % 2 ≡ 0 → (c : List (List ℕ)) → c ≡ first_chunks 2 (length s / 2) s → (b d : Bool) → b ≡ rules.all (rules.is_skip im) (map read_range c) → d ≡ rules.chained (rules.comes_before (seen [])) (map read_range c) → (leb (length c) 64 && b && d) ≡ rules.are_skips im (rows 2 skip_row s)
  skips_are whole c cut b d e g = rw (range_rows s whole c cut, length-map, e, g) refl

  pub skips_broken : (length s % 2 ≡ 0 → ⊥) → false ≡ rules.are_skips im (rows 2 skip_row s)
  skips_broken h =
      let k : false ≡ rules.all (rules.is_skip im) (rows 2 skip_row s) = not_whole 2 (omega arith) skip_row (rules.is_skip im) (not_a_skip im) s h in
      rw (← k) (sym (middle_false (leb (length (rows 2 skip_row s)) 64) _))
