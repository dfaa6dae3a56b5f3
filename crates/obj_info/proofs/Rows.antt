-- What check 1 says of the rows of the sections, and rows as chunks. Assumes nothing.
use Prim.Native.Nat.{ℕ, zero, suc, ◌+◌, ◌-◌, ◌/◌, ◌%◌, ◌<◌, ◌≤◌}
use mathlib.Core.Logic.{◌⊎◌, inl, inr}
use mathlib.Core.Path.{◌≡◌, refl, sym, ap, ◌∙◌}
use mathlib.Core.Bool.{Bool, true, false, false≢true, ◌&&◌}
use mathlib.Core.List.{List, [], ◌∷◌, map}
use native.Mathlib.Omega.{arith}
use lib.Dec.{leb, eqb}
use lib.ListN.{length, take, drop, get_or}
use borrow.Author.Tests.{leb-true, eqb-true, eqb-false, eq-eqb, ne_eqb}
use Rattle.std.specs.Simd.{first_chunks}
use Rattle.rules.specs.Choice.{if, if_false}
use Rattle.rules.specs.Image as images
use Rattle.rules.specs.Address.{key}
use Rattle.rules.specs.Image.{Kind, Section, no_section, contains, locate_from}
use Rattle.rules.specs.Given.{SectionRow, kind_of, sections_of, symbol_of}
use Rattle.rules.specs.Check as rules
use Rattle.rules.proofs.Tests.{and_left, and_right}
use Rattle.obj_image.specs.Lent.{Lent, rows, rows_from, section_row, symbol_row, given}
use Rattle.obj.specs.declared.sections.Code.{Code}
use Rattle.obj.proofs.CodeSection.{code_in}
use Rattle.obj_info.specs.Info.{symbol_in}

-- the parts of check 1 that are asked of each section
pub record Rowwise (rs : List SectionRow) : Type 0 where
  pub few : length rs ≤ 8
  pub one_code : rules.count_codes rs ≡ 1
  pub kinds : rules.all rules.is_kind rs ≡ true
  pub code_fits : rules.all rules.code_fits rs ≡ true
  pub has_bytes : rules.all rules.has_bytes rs ≡ true

pub rowwise : (l : Lent) → rules.check_image (given l) ≡ true → Rowwise (rows 4 section_row l.sections)
unfolding rules.check_image given
rowwise l h =
    let has = and_left _ _ h in
    let fits = and_left _ _ has in
    let apart = and_left _ _ fits in
    let placed = and_left _ _ apart in
    let kinds = and_left _ _ placed in
    let one = and_left _ _ kinds in
    let rs : List SectionRow = rows 4 section_row l.sections in
    record {
      few = leb-true _ _ (and_right (leb 1 (length rs)) _ (and_left _ _ one));
      one_code = eqb-true _ _ (and_right (rules.few_sections rs) _ one);
      kinds = and_right (rules.few_sections rs && rules.one_code rs) _ kinds;
      code_fits = and_right (rules.few_sections rs && rules.one_code rs && rules.all rules.is_kind rs && rules.all rules.is_placed rs && rules.none_overlap rs) _ fits;
      has_bytes = and_right (rules.few_sections rs && rules.one_code rs && rules.all rules.is_kind rs && rules.all rules.is_placed rs && rules.none_overlap rs && rules.all rules.code_fits rs) _ has;
    }

-- the code section is small
pub code_small : (i at : ℕ) (rs : List SectionRow) → rules.all rules.code_fits rs ≡ true → (code_in i at rs).size ≤ 262144
unfolding if
code_small i at [] h = omega arith
code_small i at (r ∷ rs) h = go (rules.is_code_row r) refl (and_left _ _ h) (code_small (suc i) (at + r.given) rs (and_right (rules.code_fits r) _ h))
  where
    code : Bool → Code
    code b = if b (record { number = i; base = r.base; size = r.size; offset = at }) (code_in (suc i) (at + r.given) rs)

    go : (b : Bool) → rules.is_code_row r ≡ b → rules.code_fits r ≡ true → (code_in (suc i) (at + r.given) rs).size ≤ 262144 → (code b).size ≤ 262144
    go true e f k = leb-true _ _ (rw e at f)
    go false e f k = k

-- and its number too: one section is of code
pub code_numbered : (i at : ℕ) (rs : List SectionRow) → 0 < i → ((code_in i at rs).number < i + length rs ⊎ (rules.count_codes rs ≡ 0)) × (0 < (code_in i at rs).number)
unfolding if
code_numbered i at [] h = (inr refl, h)
code_numbered i at (r ∷ rs) h = go (rules.is_code_row r) (code_numbered (suc i) (at + r.given) rs (omega arith))
  where
    code : Bool → Code
    code b = if b (record { number = i; base = r.base; size = r.size; offset = at }) (code_in (suc i) (at + r.given) rs)

    go : (b : Bool) → ((code_in (suc i) (at + r.given) rs).number < suc i + length rs ⊎ (rules.count_codes rs ≡ 0)) × (0 < (code_in (suc i) (at + r.given) rs).number) → ((code b).number < i + length (r ∷ rs) ⊎ (if b (suc (rules.count_codes rs)) (rules.count_codes rs) ≡ 0)) × (0 < (code b).number)
    go true k = (inl (omega arith), h)
    go false (inl k, p) = (inl (omega (arith, k)), p)
    go false (inr k, p) = (inr k, p)

-- where an address lies
sections_count : (rs : List SectionRow) (d : List ℕ) → length (sections_of rs d) ≡ length rs
sections_count [] d = refl
sections_count (r ∷ rs) d = ap suc (sections_count rs (drop r.given d))

located_from : (i : ℕ) (ss : List Section) (a : ℕ) → a < 0x1_0000_0000 → i + length ss ≤ 9 → locate_from i ss a < 0x10_0000_0000
unfolding if
located_from i [] a h n = omega arith
located_from i (s ∷ ss) a h n = by (contains s a) (located_from (suc i) ss a h (omega arith))
  where
    by : (b : Bool) → locate_from (suc i) ss a < 0x10_0000_0000 → if b (key i a) (locate_from (suc i) ss a) < 0x10_0000_0000
    by true f = omega arith
    by false f = f

pub rows_located : (rs : List SectionRow) (d : List ℕ) (a : ℕ) → length rs ≤ 8 → a < 0x1_0000_0000 → locate_from 1 (sections_of rs d) a < 0x10_0000_0000
rows_located rs d a n h = located_from 1 (sections_of rs d) a h (omega (arith, sections_count rs d))

-- ---- bss has no words

pub kind_other : (k : ℕ) → (k ≡ 1 → ⊥) → (k ≡ 2 → ⊥) → (k ≡ 3 → ⊥) → images.bss ≡ kind_of k
kind_other k a b c = rw (if_false (ne_eqb k 1 a) images.code (if (eqb k 2) images.written (if (eqb k 3) images.read_only images.bss)), if_false (ne_eqb k 2 b) images.written (if (eqb k 3) images.read_only images.bss), if_false (ne_eqb k 3 c) images.read_only images.bss) refl

kind_bss : (k : ℕ) → (leb 1 k && leb k 4) ≡ true → kind_of k ≡ images.bss → k ≡ 4
unfolding if
kind_bss k h e = go (eqb k 1) refl (eqb k 2) refl (eqb k 3) refl e
  where
    not_bss : Kind → Bool
    not_bss images.code = true
    not_bss images.written = true
    not_bss images.read_only = true
    not_bss images.bss = false

    go : (a : Bool) → eqb k 1 ≡ a → (b : Bool) → eqb k 2 ≡ b → (c : Bool) → eqb k 3 ≡ c → if a images.code (if b images.written (if c images.read_only images.bss)) ≡ images.bss → k ≡ 4
    go true p b q c r z = absurd (false≢true (sym (ap not_bss z)))
    go false p true q c r z = absurd (false≢true (sym (ap not_bss z)))
    go false p false q true r z = absurd (false≢true (sym (ap not_bss z)))
    go false p false q false r z = omega (arith, eqb-false k 1 p, eqb-false k 2 q, eqb-false k 3 r, leb-true 1 k (and_left _ _ h), leb-true k 4 (and_right (leb 1 k) _ h))

pub bss_empty : (rs : List SectionRow) (d : List ℕ) (i : ℕ) → rules.all rules.is_kind rs ≡ true → rules.all rules.has_bytes rs ≡ true → (get_or (sections_of rs d) i no_section).kind ≡ images.bss → (get_or (sections_of rs d) i no_section).words ≡ []
unfolding if
bss_empty [] d i h g e = refl
bss_empty (r ∷ rs) d zero h g e =
    let k : r.kind ≡ 4 = kind_bss r.kind (and_left _ _ h) e in
    let z : r.given ≡ if (eqb r.kind 4) 0 r.size = eqb-true _ _ (and_left _ _ g) in
    let n : r.given ≡ 0 = z ∙ ap (λ (b : Bool). if b 0 r.size) (eq-eqb r.kind 4 k) in
    rw n refl
bss_empty (r ∷ rs) d (suc i) h g e = bss_empty rs (drop r.given d) i (and_right (rules.is_kind r) _ h) (and_right (rules.has_bytes r) _ g) e

-- ---- rows as chunks

chunked : (n : ℕ) (l : List ℕ) → map symbol_in (first_chunks 3 n l) ≡ map symbol_of (rows_from 3 symbol_row n l)
chunked zero l = refl
chunked (suc n) l = ap (λ (r : List images.Symbol). symbol_in (take 3 l) ∷ r) (chunked n (drop 3 l))

pub symbols_chunked : (l : List ℕ) → length l % 3 ≡ 0 → map symbol_in (first_chunks 3 (length l / 3) l) ≡ map symbol_of (rows 3 symbol_row l)
unfolding rows
symbols_chunked l h = let n : length l / 3 ≡ (length l + (3 - 1)) / 3 = omega arith in rw n (chunked ((length l + (3 - 1)) / 3) l)
