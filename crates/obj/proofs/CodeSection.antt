-- The code section of an image, from the rows of its sections. Assumes nothing.
use Prim.Native.Nat.{ℕ, zero, suc, ◌+◌, ◌-◌, ◌/◌, ◌%◌, ◌<◌, ◌≤◌}
use mathlib.Core.Path.{◌≡◌, refl, sym, ap, ◌∙◌}
use mathlib.Core.Bool.{Bool, true, false, ◌&&◌, and-false, cond, not}
use mathlib.Core.List.{List, [], ◌∷◌, map}
use native.Mathlib.Omega.{arith}
use lib.Dec.{leb, ltb, eqb}
use lib.ListN.{length, take, drop, get_or, length-map, get_or-map}
use lib.Seq.{drop-drop, drop-nil, drop-cons}
use borrow.Author.Tests.{eqb-true, ltb-false, ne_eqb, le-ltb}
use Rattle.std.specs.List.{position_or_len}
use Rattle.std.proofs.Common.{add-zero}
use Rattle.rules.specs.Choice.{if, by_if, if_true, if_false}
use Rattle.rules.specs.Bytes.{words_in}
use Rattle.rules.specs.Address.{address_of, section_of}
use Rattle.rules.specs.Ordered.{first}
use Rattle.rules.specs.Image as images
use Rattle.rules.specs.Image.{code_from, code_number, code_section, no_section, is_code}
use Rattle.rules.specs.Given.{SectionRow, sections_of, section_of_row, kind_of, image_of}
use Rattle.rules.specs.Check as rules
use Rattle.rules.proofs.Tests.{and_left, and_right}
use Rattle.rules.proofs.Passes.{code_from_low}
use Rattle.obj_image.specs.Lent.{Lent, rows, section_row, given, image}
use Rattle.obj.specs.Sections.{section_by, row_of, read_row, part_of, part_in, IsCode}
use Rattle.obj_image.specs.declared.sections.Section.{Section}
use Rattle.obj.specs.declared.sections.Code.{Code}
use Rattle.std.specs.Simd.{first_chunks}
use Rattle.std.specs.Prelude.{Option, Some, None}
use Rattle.std.specs.Option.{unwrap_or}
use Rattle.obj.specs.declared.sections.Part.{Part}
use Rattle.obj_image.proofs.Chains.{section_rows}

-- the first of code, from the section i on, whose bytes begin at an offset
abbrev pub code_in : ℕ → ℕ → List SectionRow → Code
code_in i at [] = record { number = i; base = 0; size = 0; offset = at }
code_in i at (r ∷ rs) = if (rules.is_code_row r) (record { number = i; base = r.base; size = r.size; offset = at }) (code_in (suc i) (at + r.given) rs)

-- by the place of the first of code
abbrev pub code_place : List (List ℕ) → ℕ
code_place c = position_or_len (λ (s : Section). eqb s.kind 1) (map section_by c)

-- the section k of these as the one of code, which has the number n + k
abbrev pub code_of : ℕ → ℕ → ℕ → List SectionRow → Code
code_of n k at rs = record { number = n + k; base = (part_in k at rs).base; size = (part_in k at rs).size; offset = (part_in k at rs).offset }

code_at : (n at : ℕ) (c : List (List ℕ)) → code_of n (code_place c) at (map read_row c) ≡ code_in n at (map read_row c)
unfolding if
code_at n at [] = rw (add-zero n) refl
code_at n at (x ∷ c) = go (eqb (get_or x 0 0) 1) (code_at (suc n) (at + get_or x 3 0) c)
  where
    go : (b : Bool) → code_of (suc n) (code_place c) (at + get_or x 3 0) (map read_row c) ≡ code_in (suc n) (at + get_or x 3 0) (map read_row c) → code_of n (cond (not b) (1 + code_place c) 0) at (read_row x ∷ map read_row c) ≡ if b (record { number = n; base = get_or x 1 0; size = get_or x 2 0; offset = at }) (code_in (suc n) (at + get_or x 3 0) (map read_row c))
    go true h = rw (add-zero n) refl
    go false h =
        let e : 1 + code_place c ≡ suc (code_place c) = omega arith in
        let f : n + suc (code_place c) ≡ suc n + code_place c = omega arith in
        rw (e, f) h

place_small : (p : Section → Bool) (l : List Section) → position_or_len p l ≤ length l
place_small p [] = omega arith
place_small p (x ∷ l) = go (p x) (place_small p l)
  where
    go : (b : Bool) → position_or_len p l ≤ length l → cond (not b) (1 + position_or_len p l) 0 ≤ suc (length l)
    go true h = omega arith
    go false h = omega arith

-- i is the place that `position` found, or else how many there are
pub place_is : (c : List (List ℕ)) (r : Option ℕ) (i : ℕ) → r ≡ cond (ltb (code_place c) (length (map section_by c))) (Some (code_place c)) None → i ≡ unwrap_or r (length c) → i ≡ code_place c
place_is c r i e h = go (ltb (code_place c) (length (map section_by c))) refl e
  where
    go : (b : Bool) → ltb (code_place c) (length (map section_by c)) ≡ b → r ≡ cond b (Some (code_place c)) None → i ≡ code_place c
    go true t q = h ∙ ap (λ (o : Option ℕ). unwrap_or o (length c)) q
    go false t q =
        let low : length (map section_by c) ≤ code_place c = ltb-false _ _ t in
        let top : code_place c ≤ length (map section_by c) = place_small (λ (s : Section). eqb s.kind 1) (map section_by c) in
        h ∙ ap (λ (o : Option ℕ). unwrap_or o (length c)) q ∙ omega (arith, low, top, length-map c section_by)

-- what is found of whole rows, as std cuts them
pub code_found : (s : List ℕ) → length s % 4 ≡ 0 → (c : List (List ℕ)) → c ≡ first_chunks 4 (length s / 4) s → (i : ℕ) → i ≡ code_place c → (p : Part) → p ≡ part_in i 0 (map read_row c) → record { number = i + 1; base = p.base; size = p.size; offset = p.offset } ≡ code_in 1 0 (rows 4 section_row s)
code_found s whole c cut i here p is =
    let e : i + 1 ≡ 1 + i = omega arith in
    rw (e, is, here, section_rows s whole c cut) (code_at 1 0 c)

kind_is : (k : ℕ) → is_code (kind_of k) ≡ eqb k 1
unfolding if
kind_is k = by (eqb k 1) (eqb k 2) (eqb k 3)
  where
    by : (a b c : Bool) → is_code (if a images.code (if b images.written (if c images.read_only images.bss))) ≡ a
    by true b c = refl
    by false true c = refl
    by false false true = refl
    by false false false = refl

-- what the search for it finds from the section i on, whose bytes begin at an offset
record Found (i at : ℕ) (rs : List SectionRow) (b : List ℕ) (c : Code) : Type 0 where
  number : c.number ≡ code_from i (sections_of rs (drop at b))
  base : c.base ≡ (get_or (sections_of rs (drop at b)) (code_from i (sections_of rs (drop at b)) - i) no_section).base
  size : c.size ≡ (get_or (sections_of rs (drop at b)) (code_from i (sections_of rs (drop at b)) - i) no_section).size
  words : rules.all rules.has_bytes rs ≡ true → words_in (take c.size (drop c.offset b)) ≡ (get_or (sections_of rs (drop at b)) (code_from i (sections_of rs (drop at b)) - i) no_section).words
  inside : rules.all rules.has_bytes rs ≡ true → at + rules.count_bytes rs ≡ length b → c.offset + c.size ≤ length b

module _ (i at : ℕ) (r : SectionRow) (rs : List SectionRow) (b : List ℕ) where
  found_here : rules.is_code_row r ≡ true → Found i at (r ∷ rs) b (record { number = i; base = r.base; size = r.size; offset = at })
  found_here h =
      let k : is_code (kind_of r.kind) ≡ true = kind_is r.kind ∙ h in
      let n : code_from i (sections_of (r ∷ rs) (drop at b)) ≡ i = if_true k _ _ in
      let z : code_from i (sections_of (r ∷ rs) (drop at b)) - i ≡ 0 = omega arith in
      record {
        number = sym n;
        base = rw z refl;
        size = rw z refl;
        words = λ q. rw (z, whole (and_left _ _ q)) refl;
        inside = λ q e. let w : r.size ≡ r.given = whole (and_left _ _ q) in omega arith;
      }
    where
      whole : rules.has_bytes r ≡ true → r.size ≡ r.given
      whole q =
          let k : r.kind ≡ 1 = eqb-true _ _ h in
          let e : r.given ≡ if (eqb r.kind 4) 0 r.size = eqb-true _ _ q in
          sym (e ∙ if_false (ne_eqb r.kind 4 (omega arith)) 0 r.size)

  found_later : (c : Code) → rules.is_code_row r ≡ false → Found (suc i) (at + r.given) rs b c → Found i at (r ∷ rs) b c
  found_later c h f =
      let k : is_code (kind_of r.kind) ≡ false = kind_is r.kind ∙ h in
      let d : drop r.given (drop at b) ≡ drop (at + r.given) b = drop-drop r.given at b in
      let m : ℕ = code_from (suc i) (sections_of rs (drop (at + r.given) b)) in
      let low : suc i ≤ m = code_from_low (suc i) (sections_of rs (drop (at + r.given) b)) in
      let n : code_from i (sections_of (r ∷ rs) (drop at b)) ≡ m = if_false k _ _ ∙ rw d in
      let z : code_from i (sections_of (r ∷ rs) (drop at b)) - i ≡ suc (m - suc i) = omega arith in
      record {
        number = f.number ∙ sym n;
        base = rw (z, d) f.base;
        size = rw (z, d) f.size;
        words = λ q. rw (z, d) (f.words (and_right (rules.has_bytes r) _ q));
        inside = λ q e. f.inside (and_right (rules.has_bytes r) _ q) (omega arith);
      }

found : (i at : ℕ) (rs : List SectionRow) (b : List ℕ) → Found i at rs b (code_in i at rs)
found i at [] b = record { number = refl; base = refl; size = refl; words = λ q. refl; inside = λ q e. omega arith }
found i at (r ∷ rs) b =
    by_if (Found i at (r ∷ rs) b) (rules.is_code_row r)
    {x = record { number = i; base = r.base; size = r.size; offset = at }} {y = code_in (suc i) (at + r.given) rs}
    (found_here i at r rs b) (λ h. found_later i at r rs b _ h (found (suc i) (at + r.given) rs b))

-- the tests of check 1 before those of the bytes
abbrev before_bytes : List SectionRow → Bool
before_bytes rs =
    rules.few_sections rs && rules.one_code rs && rules.all rules.is_kind rs && rules.all rules.is_placed rs && rules.none_overlap rs &&
    rules.all rules.code_fits rs

-- what check 1 says of the bytes
module _ (l : Lent) (passed : rules.check_image (given l) ≡ true) where
  pub bytes_whole : rules.all rules.has_bytes (rows 4 section_row l.sections) ≡ true
  unfolding rules.check_image given
  bytes_whole = and_right (before_bytes (rows 4 section_row l.sections)) _ (and_left _ _ passed)

  pub bytes_count : rules.count_bytes (rows 4 section_row l.sections) ≡ length l.bytes
  unfolding rules.check_image given
  bytes_count =
      sym (eqb-true _ _ (and_right (before_bytes (rows 4 section_row l.sections) && rules.all rules.has_bytes (rows 4 section_row l.sections)) _ passed))

pub code_is : (s : List ℕ) (c : Code) → c ≡ code_in 1 0 (rows 4 section_row s) → (l : Lent) → l.sections ≡ s → IsCode l c
unfolding code_number code_section image_of given
code_is s c h l e =
    let f : Found 1 0 (rows 4 section_row l.sections) l.bytes c = rw (h, ← e) (found 1 0 (rows 4 section_row l.sections) l.bytes) in
    record {
      number = f.number;
      base = f.base;
      size = f.size;
      words = λ p. f.words (bytes_whole l p);
      inside = λ p. f.inside (bytes_whole l p) (omega (arith, bytes_count l p));
    }

-- ---- the section of an address

module _ (a : ℕ) where
  pub row_contains : (rs : List SectionRow) (b : List ℕ) (i : ℕ) (x : SectionRow) (t : List SectionRow) → drop i rs ≡ x ∷ t → images.contains (get_or (sections_of rs b) i no_section) a ≡ images.contains (section_of_row x []) a
  row_contains [] b i x t e = let z : 0 ≡ suc (length t) = ap length (sym (drop-nil i) ∙ e) in absurd (omega arith)
  row_contains (r ∷ rs) b zero x t e = ap (λ (l : List SectionRow). images.contains (section_of_row (first x l) []) a) e
  row_contains (r ∷ rs) b (suc i) x t e = row_contains rs (drop r.given b) i x t e

  none_contains : (rs : List SectionRow) (b : List ℕ) (i : ℕ) → length rs ≤ i → images.contains (get_or (sections_of rs b) i no_section) a ≡ false
  none_contains [] b i h = rw (le-ltb a 0 (omega arith)) (and-false (leb 0 a))
  none_contains (r ∷ rs) b zero h = absurd (omega arith)
  none_contains (r ∷ rs) b (suc i) h = none_contains rs (drop r.given b) i (omega arith)

module _ (s : List ℕ) (whole : length s % 4 ≡ 0) (c : List (List ℕ)) (cut : c ≡ first_chunks 4 (length s / 4) s) (k i : ℕ) (is : i ≡ section_of k - 1) where
  pub in_section : i < length c → (x : Section) → x ≡ section_by (get_or c i []) → (a : ℕ) → a ≡ address_of k → (b : Bool) → b ≡ images.contains (part_of x) a → (l : Lent) → l.sections ≡ s → b ≡ images.contains (images.section_at (image l) k) (address_of k)
  unfolding images.section_at image_of given
  in_section room x here a ea b h l e =
      let row : drop i (map read_row c) ≡ row_of x ∷ drop (suc i) (map read_row c) =
      drop-cons (map read_row c) i (read_row []) (rw length-map room) ∙ ap (λ (r : SectionRow). r ∷ drop (suc i) (map read_row c)) (get_or-map read_row c i [] ∙ ap row_of (sym here)) in
      h ∙ ap (images.contains (part_of x)) ea
      ∙ sym (row_contains (address_of k) (rows 4 section_row s) l.bytes i (row_of x) _ (ap (drop i) (section_rows s whole c cut) ∙ row))
      ∙ rw (is, e) refl

  pub in_no_section : length c ≤ i → (l : Lent) → l.sections ≡ s → false ≡ images.contains (images.section_at (image l) k) (address_of k)
  unfolding images.section_at image_of given
  in_no_section h l e =
      sym (none_contains (address_of k) (rows 4 section_row s) l.bytes i (rw (section_rows s whole c cut, length-map) h)) ∙ rw (is, e) refl
