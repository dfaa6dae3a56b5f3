-- Check 1 as a whole. Assumes nothing.
use Prim.Native.Nat.{ℕ, ◌/◌, ◌%◌, ◌≤◌, ◌<◌}
use mathlib.Core.Path.{◌≡◌, refl, sym, ap, ◌∙◌}
use mathlib.Core.Bool.{Bool, true, false, false≢true, ◌&&◌}
use mathlib.Core.List.{List, [], ◌∷◌, map}
use Rattle.std.specs.Simd.{first_chunks}
use native.Mathlib.Omega.{arith}
use lib.Dec.{leb, eqb}
use lib.ListN.{length, get_or}
use borrow.Author.Tests.{leb-true, eqb-true, eqb-false, ne_eqb}
use Rattle.rules.specs.Choice.{if_false}
use Rattle.rules.specs.Given.{SectionRow}
use Rattle.rules.specs.Check as rules
use Rattle.rules.proofs.Tests.{and_left, and_right}
use Rattle.obj_image.specs.Lent.{Lent, rows, section_row, given}
use Rattle.obj_image.specs.Sections.{read_row, section_holds, image_holds, Few}
use Rattle.obj_image.proofs.Chains.{section_rows}
use Rattle.obj_image.proofs.Rows.{rows_count, not_whole}

-- two tests of each row are one
all_both : {A : Type 0} (p q : A → Bool) (l : List A) → rules.all (λ x. p x && q x) l ≡ (rules.all p l && rules.all q l)
all_both p q [] = refl
all_both p q (x ∷ l) = ap (λ (t : Bool). (p x && q x) && t) (all_both p q l) ∙ swap (p x) (q x) (rules.all p l) (rules.all q l)
  where
    swap : (a b c d : Bool) → ((a && b) && (c && d)) ≡ ((a && c) && (b && d))
    swap false b c d = refl
    swap true false false d = refl
    swap true false true d = refl
    swap true true c d = refl

all_four : (l : List SectionRow) → rules.all section_holds l ≡ (rules.all rules.is_kind l && rules.all rules.is_placed l && rules.all rules.code_fits l && rules.all rules.has_bytes l)
all_four l =
    all_both (λ (r : SectionRow). rules.is_kind r && rules.is_placed r && rules.code_fits r) rules.has_bytes l
    ∙ ap (λ (t : Bool). t && rules.all rules.has_bytes l)
    (all_both (λ (r : SectionRow). rules.is_kind r && rules.is_placed r) rules.code_fits l
    ∙ ap (λ (t : Bool). t && rules.all rules.code_fits l) (all_both rules.is_kind rules.is_placed l))

-- the same tests, in the order of `rules`
reorder : (n o k p a f h b : Bool) → (n && (o && (k && p && f && h) && a && b)) ≡ (n && o && k && p && a && f && h && b)
reorder false o k p a f h b = refl
reorder true false k p a f h b = refl
reorder true true false p a f h b = refl
reorder true true true false a f h b = refl
reorder true true true true true true true b = refl
reorder true true true true true true false b = refl
reorder true true true true true false h b = refl
reorder true true true true false true true b = refl
reorder true true true true false true false b = refl
reorder true true true true false false h b = refl

-- a section that is not whole has no kind
not_a_kind : (c : List ℕ) → length c < 4 → rules.is_kind (section_row c) ≡ false
not_a_kind c h = rw (if_false (ne_eqb (length c) 4 (omega arith)) (get_or c 0 0) 0) refl

-- where the test comes to the same for all lists with these sections and bytes
abbrev pub For : List ℕ → List ℕ → (Lent → Bool) → Bool → Type 0
For s b f t = (l : Lent) → l.sections ≡ s → l.bytes ≡ b → t ≡ f l

module _ (s : List ℕ) (few : Bool) (is : few ≡ rules.few_sections (rows 4 section_row s)) where
  pub few_rows : length s % 4 ≡ 0 → few ≡ true → Few s
  few_rows h t =
      let e : length s / 4 ≡ length (rows 4 section_row s) = rows_count 4 (omega arith) section_row s h in
      let n : length (rows 4 section_row s) ≤ 8 = leb-true _ _ (and_right (leb 1 (length (rows 4 section_row s))) _ (sym is ∙ t)) in
      record { whole = h; few = omega arith }

-- whole rows, as std cuts them; n is whether there are 1 to 8
module _ (s b : List ℕ) (whole : length s % 4 ≡ 0) (c : List (List ℕ)) (cut : c ≡ first_chunks 4 (length s / 4) s) (n : Bool) (is : n ≡ rules.few_sections (map read_row c)) where
  check_is : For s b (λ l. rules.check_image (given l)) (n && image_holds (map read_row c) b)
  unfolding rules.check_image given
  check_is l e f =
      rw (e, f, section_rows s whole c cut, is, all_four (map read_row c))
      (reorder (rules.few_sections (map read_row c)) (rules.one_code (map read_row c)) (rules.all rules.is_kind (map read_row c)) (rules.all rules.is_placed (map read_row c)) (rules.none_overlap (map read_row c)) (rules.all rules.code_fits (map read_row c)) (rules.all rules.has_bytes (map read_row c)) _)

  pub image_is : n ≡ true → For s b (λ l. rules.check_image (given l)) (image_holds (map read_row c) b)
  image_is h l e f = ap (λ (t : Bool). t && image_holds (map read_row c) b) (sym h) ∙ check_is l e f

  pub image_many : n ≡ false → For s b (λ l. rules.check_image (given l)) n
  image_many h l e f = h ∙ ap (λ (t : Bool). t && image_holds (map read_row c) b) (sym h) ∙ check_is l e f

pub image_broken : (s : List ℕ) → (length s % 4 ≡ 0 → ⊥) → (l : Lent) → l.sections ≡ s → false ≡ rules.check_image (given l)
unfolding rules.check_image given
image_broken s h l e =
    let k : false ≡ rules.all rules.is_kind (rows 4 section_row s) = not_whole 4 (omega arith) section_row rules.is_kind not_a_kind s h in
    rw (e, ← k) (sym (none (rules.few_sections (rows 4 section_row s)) (rules.one_code (rows 4 section_row s)) _ _ _ _ _))
  where
    none : (a b c d e f g : Bool) → (a && b && false && c && d && e && f && g) ≡ false
    none false b c d e f g = refl
    none true false c d e f g = refl
    none true true c d e f g = refl

-- a passed image has few sections
pub few_of : (l : Lent) → rules.check_image (given l) ≡ true → Few l.sections
unfolding rules.check_image given
few_of l h = go (eqb (length l.sections % 4) 0) refl
  where
    first : rules.few_sections (rows 4 section_row l.sections) ≡ true
    first = and_left _ _ (and_left _ _ (and_left _ _ (and_left _ _ (and_left _ _ (and_left _ _ (and_left _ _ h))))))

    go : (b : Bool) → eqb (length l.sections % 4) 0 ≡ b → Few l.sections
    go true e = few_rows l.sections _ refl (eqb-true _ _ e) first
    go false e = absurd (false≢true (image_broken l.sections (eqb-false _ _ e) l refl ∙ h))
