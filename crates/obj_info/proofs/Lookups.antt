-- What the lookups in a checked image come to. Assumes nothing.
use Rattle.std.proofs.Common.{◌≡◌, ℕ, ◌+◌, ◌-◌, ◌/◌, ◌%◌, ◌*◌, ◌<◌, ◌≤◌, ◌≢◌, refl, sym, ap, ◌∙◌, List, [], ◌∷◌, length, take, drop, get_or, map, Bool, true, false, ◌&&◌, Some, None, eqb, leb, ltb, arith}
use mathlib.Core.Logic.{◌⊎◌, inl, inr}
use borrow.Author.Tests.{eq-eqb, ne_eqb, lt-ltb, leb-true, ltb-true, eqb-true, eqb-false}
use Rattle.std.specs.Simd.{first_chunks}
use Rattle.rules.specs.Choice.{if, if_true, if_false}
use Rattle.rules.specs.Address.{address_of, section_of}
use Rattle.rules.specs.Image as images
use Rattle.rules.specs.Image.{Kind, code_section, code_number, section_at, contains, in_code, index, no_section, no_word}
use Rattle.rules.specs.Bytes.{words_in}
use Rattle.rules.specs.Given.{entry_of, kind_of, image_of}
use Rattle.rules.specs.Check as rules
use Rattle.rules.specs.Check.{check}
use Rattle.rules.proofs.Tests.{and_left, and_right}
use Rattle.rules.proofs.Passes.{passed_of, checked_of}
use Rattle.obj_image.specs.Lent.{Lent, rows, section_row, symbol_row, given, image}
use Rattle.obj.specs.Sections.{IsCode, IsPart, InBytes}
use Rattle.obj.specs.declared.sections.Code.{Code}
use Rattle.obj.specs.declared.sections.Part.{Part}
use Rattle.obj.proofs.CodeSection.{code_in, code_is}
use Rattle.obj.proofs.Ready.{whole_functions, in_bytes}
use Rattle.obj.proofs.Words.{word_here}
use Rattle.obj_image.proofs.Rows.{rows_count}
use Rattle.obj_info.proofs.Rows.{Rowwise, rowwise, rows_located, code_small, code_numbered, bss_empty, symbols_chunked}
use Rattle.obj_info.specs.Info.{some_nonzero, some_word, index_in_code, index_within, symbol_in}

-- 0 is none
pub none_found : (n : ℕ) → 0 ≡ n → None ≡ some_nonzero n
none_found n z = sym (if_true (eq-eqb n 0 (sym z)) _ _)

pub one_found : (r n : ℕ) → r ≡ n → r ≢ 0 → Some r ≡ some_nonzero n
one_found r n e h = rw (← e) (sym (if_false (ne_eqb r 0 h) _ _))

-- ---- the code section

module _ (l : Lent) (checked : check (given l) ≡ 0) (c : Code) (code : IsCode l c) where
  abbrev first_code : Code
  first_code = code_in 1 0 (rows 4 section_row l.sections)

  first : IsCode l first_code
  first = code_is l.sections first_code refl l refl

  rows_pass : Rowwise (rows 4 section_row l.sections)
  rows_pass = rowwise l (passed_of (given l) checked).image

  -- the code section's bytes are lent
  pub bytes_end : c.offset + c.size ≤ length l.bytes
  bytes_end = code.inside (passed_of (given l) checked).image

  pub bytes_words : (n : ℕ) → n ≡ c.size → words_in (take n (drop c.offset l.bytes)) ≡ (code_section (image l)).words
  bytes_words n e = rw e (code.words (passed_of (given l) checked).image)

  -- it is small
  pub size_small : c.size ≤ 262144
  size_small = omega (arith, code.size, first.size, code_small 1 0 (rows 4 section_row l.sections) rows_pass.code_fits)

  pub number_small : (c.number ≤ 8) × (0 < c.number)
  number_small =
      let n = code_numbered 1 0 (rows 4 section_row l.sections) (omega arith) in
      (below n.0, omega (arith, code.number, first.number, n.1))
    where
      below : (first_code.number < 1 + length (rows 4 section_row l.sections) ⊎ (rules.count_codes (rows 4 section_row l.sections) ≡ 0)) → c.number ≤ 8
      below (inl h) = omega (arith, code.number, first.number, h, rows_pass.few)
      below (inr h) = absurd (omega (arith, h, rows_pass.one_code))

  pub code_end : c.base + c.size ≤ 0xF000_0000
  code_end = rw (code.base, code.size) (checked_of (given l) checked).sound.fits

  -- an address lies in code
  pub in_code_is : (k : ℕ) → (eqb (k / 0x1_0000_0000) c.number && contains (code_section (image l)) (address_of k)) ≡ in_code (image l) k
  unfolding in_code
  in_code_is k = rw code.number refl

  -- and one in code lies in the code section
  pub within : (k : ℕ) → in_code (image l) k ≡ true → contains (code_section (image l)) (address_of k) ≡ true
  unfolding in_code
  within k h = and_right (eqb (section_of k) (code_number (image l))) _ h

  pub address_low : (k : ℕ) → contains (code_section (image l)) (address_of k) ≡ true → c.base ≤ k % 0x1_0000_0000
  address_low k h = rw code.base (leb-true _ _ (and_left _ _ h))

  address_high : (k : ℕ) → contains (code_section (image l)) (address_of k) ≡ true → k % 0x1_0000_0000 < c.base + c.size
  address_high k h = rw (code.base, code.size) (ltb-true _ _ (and_right (leb (code_section (image l)).base (address_of k)) _ h))

  pub address_small : (k : ℕ) → contains (code_section (image l)) (address_of k) ≡ true → address_of k < 0xF000_0000
  address_small k h = omega (arith, address_high k h, code_end)

  pub index_small : (k : ℕ) → contains (code_section (image l)) (address_of k) ≡ true → (k % 0x1_0000_0000 - c.base) / 4 < 65536
  index_small k h = omega (arith, address_low k h, address_high k h, size_small)

  pub index_found : (k : ℕ) → in_code (image l) k ≡ true → Some ((k % 0x1_0000_0000 - c.base) / 4) ≡ index_in_code (image l) k
  unfolding index
  index_found k h = rw code.base (sym (if_true h _ _))

  -- the same by the 32-bit address alone
  pub inside_found : (k : ℕ) → contains (code_section (image l)) (address_of k) ≡ true → Some ((k % 0x1_0000_0000 - c.base) / 4) ≡ index_within (image l) k
  unfolding index
  inside_found k h = rw code.base (sym (if_true h _ _))

  -- its word
  pub word_end : (k : ℕ) → contains (code_section (image l)) (address_of k) ≡ true → c.offset + (k % 0x1_0000_0000 - c.base) / 4 * 4 + 4 ≤ length l.bytes
  word_end k h =
      let fits : InBytes l.bytes c = in_bytes l checked c code in
      omega (arith, address_low k h, address_high k h, fits.words, fits.bytes)

  pub word_there : (k w : ℕ) → contains (code_section (image l)) (address_of k) ≡ true → words_in (drop (c.offset + (k % 0x1_0000_0000 - c.base) / 4 * 4) l.bytes) ≡ w ∷ words_in (drop (c.offset + (k % 0x1_0000_0000 - c.base) / 4 * 4 + 4) l.bytes) → w ≡ images.word (image l) (address_of k)
  word_there k w h e =
      word_here l.bytes c (address_of k) (in_bytes l checked c code) l refl code (passed_of (given l) checked).image ((k % 0x1_0000_0000 - c.base) / 4) w (omega arith) (address_low k h) (address_high k h) refl e

  -- the entry point
  pub entry_found : (a : ℕ) → 1 ≤ length l.entry → a ≡ get_or l.entry 0 0 → Some (c.number * 0x1_0000_0000 + a) ≡ some_nonzero (image l).entry
  unfolding image_of given code_number
  entry_found a h e = one_found _ _ (go l.entry h e) (omega (arith, number_small.1))
    where
      go : (m : List ℕ) → 1 ≤ length m → a ≡ get_or m 0 0 → c.number * 0x1_0000_0000 + a ≡ entry_of (code_number (image l)) m
      go [] q r = absurd (omega arith)
      go (x ∷ m) q r = rw (code.number, r) refl

none_entered : (n : ℕ) (m : List ℕ) → length m < 1 → None ≡ some_nonzero (entry_of n m)
unfolding if
none_entered n [] q = refl
none_entered n (x ∷ m) q = absurd (omega arith)

pub no_entry : (l : Lent) → length l.entry < 1 → None ≡ some_nonzero (image l).entry
unfolding image_of given
no_entry l h = none_entered (images.code_from 1 (image l).sections) l.entry h

-- ---- words

pub one_word : (w n : ℕ) → w ≡ n → w < no_word → Some w ≡ some_word n
one_word w n e h = rw (← e) (sym (if_true (lt-ltb w no_word h) _ _))

pub none_word : (n : ℕ) → no_word ≡ n → None ≡ some_word n
unfolding if
none_word n e = rw (← e) refl

-- whether it is a given one
pub this_word : (n w o : ℕ) → Some w ≡ some_word n → eqb w o ≡ eqb n o
unfolding if
this_word n w o e = go (ltb n no_word) e
  where
    go : (b : Bool) → Some w ≡ if b (Some n) None → eqb w o ≡ eqb n o
    go true e = let q : w ≡ n = cc in ap (λ (x : ℕ). eqb x o) q
    go false e = cc

pub no_word_this : (n o : ℕ) → n ≡ no_word → o < no_word → false ≡ eqb n o
no_word_this n o e h = sym (ne_eqb n o (λ z. omega arith))

-- ---- symbols

module _ (l : Lent) (checked : check (given l) ≡ 0) where
  pub functions_few : length l.functions / 3 ≤ 1024
  unfolding rules.check_rest given
  functions_few =
      let im = image l in
      let few : length (rows 3 symbol_row l.functions) ≤ 1024 = leb-true _ _ (and_left _ _ (and_left _ _ (and_left _ _ (and_left _ _ (and_left _ _ (passed_of (given l) checked).rest))))) in
      omega (arith, few, rows_count 3 (omega arith) symbol_row l.functions (whole_functions l checked))

  pub functions_chunked : length l.functions % 3 ≡ 0 → map symbol_in (first_chunks 3 (length l.functions / 3) l.functions) ≡ (image l).functions
  unfolding image_of given
  functions_chunked h = symbols_chunked l.functions h

-- ---- sections

pub located_low : (l : Lent) → rules.check_image (given l) ≡ true → (a : ℕ) → a < 0x1_0000_0000 → images.locate (image l) a < 0x10_0000_0000
unfolding images.locate image_of given
located_low l passed a h = rows_located (rows 4 section_row l.sections) l.bytes a (rowwise l passed).few h

module _ (l : Lent) (passed : rules.check_image (given l) ≡ true) (k : ℕ) (p : Part) (part : IsPart l k p) where
  pub part_end : p.kind ≢ 4 → p.offset + p.size ≤ length l.bytes
  part_end = part.inside passed

  abbrev part_bytes : List ℕ
  part_bytes = if (eqb p.kind 4) [] (take p.size (drop p.offset l.bytes))

  no_words : p.kind ≡ 4 → (section_at (image l) k).words ≡ []
  unfolding section_at image_of given if
  no_words e =
      let r : Rowwise (rows 4 section_row l.sections) = rowwise l passed in
      let b : (section_at (image l) k).kind ≡ images.bss = sym part.kind ∙ ap kind_of e in
      bss_empty (rows 4 section_row l.sections) l.bytes (section_of k - 1) r.kinds r.has_bytes b

  part_words : words_in part_bytes ≡ (section_at (image l) k).words
  unfolding if
  part_words = go (eqb p.kind 4) refl
    where
      go : (t : Bool) → eqb p.kind 4 ≡ t → words_in (if t [] (take p.size (drop p.offset l.bytes))) ≡ (section_at (image l) k).words
      go true q = sym (no_words (eqb-true _ _ q))
      go false q = part.words passed (eqb-false _ _ q)

  pub section_found : (kd : Kind) (b : List ℕ) → kd ≡ kind_of p.kind → b ≡ part_bytes → record { kind = kd; base = p.base; size = p.size; words = words_in b } ≡ section_at (image l) k
  section_found kd b e f = rw (f, e, part_words, part.kind, part.base, part.size) refl
