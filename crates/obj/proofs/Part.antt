-- The section of an address with its bytes, from the rows of the sections. Assumes nothing.
use Prim.Native.Nat.{ℕ, zero, suc, ◌+◌, ◌-◌, ◌<◌, ◌≤◌}
use mathlib.Core.Path.{◌≡◌, refl, sym, ◌∙◌}
use mathlib.Core.Bool.{true}
use mathlib.Core.List.{List, [], ◌∷◌, map}
use native.Mathlib.Omega.{arith}
use lib.ListN.{length, take, drop, get_or}
use lib.Seq.{drop-drop}
use borrow.Author.Tests.{eqb-true, ne_eqb}
use Rattle.rules.specs.Choice.{if, if_false}
use Rattle.rules.specs.Bytes.{words_in}
use Rattle.rules.specs.Address.{section_of}
use Rattle.rules.specs.Image.{no_section, section_at}
use Rattle.rules.specs.Given.{SectionRow, sections_of, kind_of, image_of}
use Rattle.rules.specs.Check as rules
use Rattle.rules.proofs.Tests.{and_left, and_right}
use Rattle.obj_image.specs.Lent.{Lent, rows, section_row, given}
use Rattle.obj.specs.Sections.{section_by, read_row, part_in, IsPart}
use Rattle.obj_image.specs.declared.sections.Section.{Section}
use Rattle.obj.specs.declared.sections.Part.{Part}
use Rattle.obj.proofs.CodeSection.{bytes_whole, bytes_count}

-- by index
pub part_some : (i at : ℕ) (c : List (List ℕ)) (x : Section) (o : ℕ) → i < length c → x ≡ section_by (get_or c i []) → o ≡ at + rules.count_bytes (map read_row (take i c)) → record { kind = x.kind; base = x.base; size = x.size; offset = o } ≡ part_in i at (map read_row c)
part_some i at [] x o h here e = absurd (omega arith)
part_some zero at (y ∷ c) x o h here e = let z : o ≡ at = omega arith in rw (z, here) refl
part_some (suc i) at (y ∷ c) x o h here e = part_some i (at + (read_row y).given) c x o (omega arith) here (omega arith)

pub part_none : (i at : ℕ) (c : List (List ℕ)) (o : ℕ) → length c ≤ i → o ≡ at + rules.count_bytes (map read_row c) → record { kind = 4; base = 0; size = 0; offset = o } ≡ part_in i at (map read_row c)
part_none i at [] o h e = let z : o ≡ at = omega arith in rw z refl
part_none zero at (x ∷ c) o h e = absurd (omega arith)
part_none (suc i) at (x ∷ c) o h e = part_none i (at + (read_row x).given) c o (omega arith) (omega arith)

-- ---- what it finds

record Found (i at : ℕ) (rs : List SectionRow) (b : List ℕ) (p : Part) : Type 0 where
  kind : kind_of p.kind ≡ (get_or (sections_of rs (drop at b)) i no_section).kind
  base : p.base ≡ (get_or (sections_of rs (drop at b)) i no_section).base
  size : p.size ≡ (get_or (sections_of rs (drop at b)) i no_section).size
  words : rules.all rules.has_bytes rs ≡ true → (p.kind ≡ 4 → ⊥) → words_in (take p.size (drop p.offset b)) ≡ (get_or (sections_of rs (drop at b)) i no_section).words
  inside : rules.all rules.has_bytes rs ≡ true → at + rules.count_bytes rs ≡ length b → (p.kind ≡ 4 → ⊥) → p.offset + p.size ≤ length b

whole : (r : SectionRow) → rules.has_bytes r ≡ true → (r.kind ≡ 4 → ⊥) → r.size ≡ r.given
whole r q h = sym (eqb-true _ _ q ∙ if_false (ne_eqb r.kind 4 h) 0 r.size)

found : (i at : ℕ) (rs : List SectionRow) (b : List ℕ) → Found i at rs b (part_in i at rs)
unfolding if
found i at [] b = record { kind = refl; base = refl; size = refl; words = λ q h. absurd (h refl); inside = λ q e h. absurd (h refl) }
found zero at (r ∷ rs) b =
    record {
      kind = refl;
      base = refl;
      size = refl;
      words = λ q h. rw (whole r (and_left _ _ q) h) refl;
      inside = λ q e h. let w : r.size ≡ r.given = whole r (and_left _ _ q) h in omega arith;
    }
found (suc i) at (r ∷ rs) b =
    let f : Found i (at + r.given) rs b (part_in i (at + r.given) rs) = found i (at + r.given) rs b in
    let d : drop r.given (drop at b) ≡ drop (at + r.given) b = drop-drop r.given at b in
    record {
      kind = rw d f.kind;
      base = rw d f.base;
      size = rw d f.size;
      words = λ q h. rw d (f.words (and_right (rules.has_bytes r) _ q) h);
      inside = λ q e h. f.inside (and_right (rules.has_bytes r) _ q) (omega arith) h;
    }

pub part_is : (s : List ℕ) (k i : ℕ) (p : Part) → i ≡ section_of k - 1 → p ≡ part_in i 0 (rows 4 section_row s) → (l : Lent) → l.sections ≡ s → IsPart l k p
unfolding section_at image_of given
part_is s k i p at h l e =
    let f : Found (section_of k - 1) 0 (rows 4 section_row l.sections) l.bytes p = rw (h, ← e, ← at) (found i 0 (rows 4 section_row l.sections) l.bytes) in
    record {
      kind = f.kind;
      base = f.base;
      size = f.size;
      words = λ q. f.words (bytes_whole l q);
      inside = λ q. f.inside (bytes_whole l q) (omega (arith, bytes_count l q));
    }
