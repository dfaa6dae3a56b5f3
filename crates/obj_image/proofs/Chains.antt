-- Chains over rows: std's words for what they come to, and those of `rules`. Assumes nothing.
use Prim.Native.Nat.{ℕ, suc, ◌+◌, ◌*◌, ◌/◌, ◌%◌, ◌<◌, ◌≤◌}
use mathlib.Core.Path.{◌≡◌, refl, sym, ap, ◌∙◌}
use mathlib.Core.Bool.{Bool, true, false, ◌&&◌, cond}
use mathlib.Core.List.{List, [], ◌∷◌, map}
use native.Mathlib.Omega.{arith}
use lib.Dec.{eqb, ltb}
use lib.ListN.{length, drop, get_or, drop_of_length-le}
use lib.Seq.{drop-cons}
use native.Mathlib.Numerals.{add-one}
use borrow.Author.Tests.{ltb-true, ltb-false, lt-ltb, le-ltb}
use Rattle.std.specs.List.{list_all, filter}
use Rattle.rules.specs.Choice.{if, if_true, if_false}
use Rattle.rules.specs.Given.{SectionRow}
use Rattle.rules.specs.Check as rules
use Rattle.rules.specs.Address.{key}
use Rattle.rules.specs.Image as images
use Rattle.std.specs.Simd.{first_chunks}
use Rattle.obj_image.specs.Lent.{rows, section_row}
use Rattle.obj_image.proofs.Rows.{rows_chunks}
use Rattle.obj_image.proofs.SectionRows.{locate_in}
use Rattle.obj_image.specs.Sections.{section_by, read_row, part_of}
use Rattle.obj_image.specs.declared.sections.Section.{Section}

-- whole rows, as std cuts them
pub section_rows : (s : List ℕ) → length s % 4 ≡ 0 → (c : List (List ℕ)) → c ≡ first_chunks 4 (length s / 4) s → rows 4 section_row s ≡ map read_row c
unfolding if
section_rows s whole c cut = rows_chunks 4 (omega arith) section_row read_row (λ x h. rw h refl) s whole ∙ ap (map read_row) (sym cut)

-- a test of each row: `by` makes a value of its numbers, and `row` the row of the value
pub all_rows : {A B C : Type 0} (p : C → Bool) (row : B → C) (by : A → B) (l : List A) → list_all (λ x. p (row x)) (map by l) ≡ rules.all p (map (λ x. row (by x)) l)
all_rows p row by [] = refl
all_rows p row by (x ∷ l) = ap (λ (t : Bool). p (row (by x)) && t) (all_rows p row by l)

-- how many sections are of code
pub codes_are : (l : List (List ℕ)) → length (filter (λ (s : Section). eqb s.kind 1) (map section_by l)) ≡ rules.count_codes (map read_row l)
unfolding if
codes_are [] = refl
codes_are (c ∷ l) = go (eqb (section_by c).kind 1) (codes_are l)
  where
    f : List Section
    f = filter (λ (s : Section). eqb s.kind 1) (map section_by l)

    go : (b : Bool) → length f ≡ rules.count_codes (map read_row l) → length (cond b (section_by c ∷ f) f) ≡ if b (suc (rules.count_codes (map read_row l))) (rules.count_codes (map read_row l))
    go true h = ap suc h
    go false h = h

below_more : (p q : ℕ) → ltb (1 + p) (suc q) ≡ ltb p q
below_more p q = go (ltb p q) refl
  where
    go : (b : Bool) → ltb p q ≡ b → ltb (1 + p) (suc q) ≡ b
    go true e = let h : p < q = ltb-true p q e in lt-ltb (1 + p) (suc q) (omega arith)
    go false e = let h : q ≤ p = ltb-false p q e in le-ltb (1 + p) (suc q) (omega arith)

-- the sections from a place on, of which each is asked whether it holds an address
module _ (s : List ℕ) (whole : length s % 4 ≡ 0) (c : List (List ℕ)) (cut : c ≡ first_chunks 4 (length s / 4) s) (a n i : ℕ) (same : locate_in n (map read_row (drop i c)) a ≡ locate_in 1 (map read_row c) a) where
  all : locate_in 1 (map read_row c) a ≡ locate_in 1 (rows 4 section_row s) a
  all = ap (λ (l : List SectionRow). locate_in 1 l a) (sym (section_rows s whole c cut))

  turn : (d : List ℕ) (x : Section) (b : Bool) → i < length c → x ≡ section_by (get_or c i d) → b ≡ images.contains (part_of x) a → if b (key n a) (locate_in (suc n) (map read_row (drop (suc i) c)) a) ≡ locate_in 1 (map read_row c) a
  turn d x b lt is e = rw (e, is) (sym (ap (λ (l : List (List ℕ)). locate_in n (map read_row l) a) (drop-cons c i d lt)) ∙ same)

  pub lies_here : (d : List ℕ) (x : Section) (b : Bool) (v : ℕ) → i < length c → x ≡ section_by (get_or c i d) → b ≡ images.contains (part_of x) a → b ≡ true → v ≡ a → n * 0x1_0000_0000 + v ≡ locate_in 1 (rows 4 section_row s) a
  lies_here d x b v lt is e h is_v = rw is_v (sym (if_true h (key n a) (locate_in (suc n) (map read_row (drop (suc i) c)) a)) ∙ turn d x b lt is e ∙ all)

  pub lies_later : (d : List ℕ) (x : Section) (b : Bool) → i < length c → x ≡ section_by (get_or c i d) → b ≡ images.contains (part_of x) a → b ≡ false → locate_in (n + 1) (map read_row (drop (i + 1) c)) a ≡ locate_in 1 (map read_row c) a
  lies_later d x b lt is e h = rw (add-one n, add-one i) (sym (if_false h (key n a) (locate_in (suc n) (map read_row (drop (suc i) c)) a)) ∙ turn d x b lt is e)

  pub lies_nowhere : length c ≤ i → 0 ≡ locate_in 1 (rows 4 section_row s) a
  lies_nowhere past = sym (ap (λ (l : List (List ℕ)). locate_in n (map read_row l) a) (drop_of_length-le c past)) ∙ same ∙ all
