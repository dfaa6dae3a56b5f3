-- What the lists of an image that passes the checks are: what the lookups ask for. Assumes nothing.
use Prim.Native.Nat.{ℕ, suc, ◌+◌, ◌*◌, ◌/◌, ◌%◌, ◌≤◌, ◌<◌}
use mathlib.Core.Path.{◌≡◌, refl, sym, ap, ◌∙◌}
use mathlib.Core.Bool.{Bool, true, false, ◌&&◌, and-false, ◌||◌}
use mathlib.Core.List.{List, [], ◌∷◌, map}
use native.Mathlib.Omega.{arith}
use lib.Dec.{leb, ltb, eqb}
use lib.ListN.{length}
use borrow.Author.Tests.{leb-true, ltb-true, eqb-true, lt-leb, le-ltb, le-leb, lt-ltb}
use Rattle.rules.specs.Choice.{if, if_false}
use Rattle.rules.specs.Address.{key, address_of, section_of}
use Rattle.rules.specs.Ordered.{self, Rising}
use Rattle.rules.specs.Image as images
use Rattle.rules.specs.Image.{contains, code_section, code_number, in_code, locate}
use Rattle.rules.specs.Given.{SectionRow, SymbolRow}
use Rattle.rules.specs.Check as rules
use Rattle.rules.proofs.Tests.{and_left, and_right, and_both}
use Rattle.rules.proofs.Passes.{Passed, passed_of, checked_of}
use Rattle.obj_image.specs.Lent.{Lent, lent, rows, section_row, outcome_row, symbol_row, skip_row, given, image, seen}
use Rattle.obj.specs.Sections.{Few, IsCode, InBytes}
use Rattle.obj.specs.Outcomes.{InCode}
use Rattle.obj_rows.specs.Symbols.{addresses, KeysAscend}
use Rattle.obj_rows.specs.Skips.{is_nonempty, Ascending}
use Rattle.obj.specs.declared.sections.Code.{Code}
use Rattle.obj_image.proofs.Rows.{rows_count, whole_of}
use Rattle.obj_image.proofs.SectionRows.{locate_in, located}
use Rattle.obj.proofs.CodeSection.{code_in, code_is}
use Rattle.obj_image.proofs.CheckImage.{few_of}
use Rattle.obj_image.proofs.Halves.{half_function, half_object}
use Rattle.obj_rows.proofs.SkipRows.{not_a_skip}
use Rattle.obj.proofs.Numbers.{not_an_outcome}
use Rattle.obj.proofs.Halving.{own_address}

-- ---- an address of the code section lies in no other

-- a section that is apart from all is apart from the one of code
apart_code : (r : SectionRow) (rs : List SectionRow) (i at : ℕ) → rules.all (rules.are_apart r) rs ≡ true → 0 < (code_in i at rs).size → (leb (r.base + r.size) (code_in i at rs).base || leb ((code_in i at rs).base + (code_in i at rs).size) r.base) ≡ true
unfolding if
apart_code r [] i at h k = absurd (omega arith)
apart_code r (x ∷ rs) i at h k = go (rules.is_code_row x) k (apart_code r rs (suc i) (at + x.given) (and_right (rules.are_apart r x) _ h))
  where
    code : Bool → Code
    code b = if b (record { number = i; base = x.base; size = x.size; offset = at }) (code_in (suc i) (at + x.given) rs)

    go : (b : Bool) → 0 < (code b).size → (0 < (code_in (suc i) (at + x.given) rs).size → (leb (r.base + r.size) (code_in (suc i) (at + x.given) rs).base || leb ((code_in (suc i) (at + x.given) rs).base + (code_in (suc i) (at + x.given) rs).size) r.base) ≡ true) → (leb (r.base + r.size) (code b).base || leb ((code b).base + (code b).size) r.base) ≡ true
    go true k f = and_left _ _ h
    go false k f = f k

-- an address of one of two sections apart is not in the other
apart_not : (rb rz cb cz a : ℕ) → (leb (rb + rz) cb || leb (cb + cz) rb) ≡ true → cb ≤ a → a < cb + cz → (leb rb a && ltb a (rb + rz)) ≡ false
apart_not rb rz cb cz a h low high = go (leb (rb + rz) cb) refl h
  where
    go : (b : Bool) → leb (rb + rz) cb ≡ b → (b || leb (cb + cz) rb) ≡ true → (leb rb a && ltb a (rb + rz)) ≡ false
    go true e q = let k : rb + rz ≤ cb = leb-true _ _ e in rw (le-ltb a (rb + rz) (omega arith)) (and-false (leb rb a))
    go false e q = let k : cb + cz ≤ rb = leb-true _ _ q in rw (lt-leb rb a (omega arith)) refl

code_located : (i at a : ℕ) (rs : List SectionRow) → rules.none_overlap rs ≡ true → (code_in i at rs).base ≤ a → a < (code_in i at rs).base + (code_in i at rs).size → locate_in i rs a ≡ key (code_in i at rs).number a
unfolding if
code_located i at a [] h low high = absurd (omega arith)
code_located i at a (r ∷ rs) h low high =
    go (rules.is_code_row r) low high
    (apart_code r rs (suc i) (at + r.given) (and_left _ _ h))
    (code_located (suc i) (at + r.given) a rs (and_right (rules.all (rules.are_apart r) rs) _ h))
  where
    here : Code
    here = record { number = i; base = r.base; size = r.size; offset = at }

    later : Code
    later = code_in (suc i) (at + r.given) rs

    go : (b : Bool) → (if b here later).base ≤ a → a < (if b here later).base + (if b here later).size → (0 < later.size → (leb (r.base + r.size) later.base || leb (later.base + later.size) r.base) ≡ true) → (later.base ≤ a → a < later.base + later.size → locate_in (suc i) rs a ≡ key later.number a) → locate_in i (r ∷ rs) a ≡ key (if b here later).number a
    go true l k f g = rw (le-leb r.base a l, lt-ltb a (r.base + r.size) k) refl
    go false l k f g = if_false (apart_not r.base r.size later.base later.size a (f (omega arith)) l k) _ _ ∙ g l k

-- a range that passes is not empty
nonempty_all : (im : images.Image) (rs : List images.Range) → rules.all (rules.is_skip im) rs ≡ true → rules.all is_nonempty rs ≡ true
nonempty_all im [] h = refl
nonempty_all im (r ∷ rs) h =
    let one : is_nonempty r ≡ true = and_right (eqb (r.first % 4) 0 && eqb (r.past % 4) 0) _ (and_left _ _ (and_left _ _ (and_left _ _ h))) in
    and_both (is_nonempty r) _ one (nonempty_all im rs (and_right (rules.is_skip im r) _ h))

-- ---- the lists of an image that passes the checks

module _ (l : Lent) (checked : rules.check (given l) ≡ 0) where
  passed : Passed (given l)
  passed = passed_of (given l) checked

  pub few_sections : Few l.sections
  few_sections = few_of l passed.image

  none_overlap : rules.none_overlap (rows 4 section_row l.sections) ≡ true
  unfolding rules.check_image given
  none_overlap =
      and_right (rules.few_sections (given l).sections && rules.one_code (given l).sections && rules.all rules.is_kind (given l).sections && rules.all rules.is_placed (given l).sections) _
      (and_left _ _ (and_left _ _ (and_left _ _ passed.image)))

  -- an address in code is the code section's
  code_key : (a : ℕ) → contains (code_section (image l)) a ≡ true → locate (image l) a ≡ key (code_number (image l)) a
  code_key a h =
      let s : List ℕ = l.sections in
      let c : Code = code_in 1 0 (rows 4 section_row s) in
      let e : IsCode l c = code_is s c refl l refl in
      let low : c.base ≤ a = rw e.base (leb-true _ _ (and_left _ _ h)) in
      let high : a < c.base + c.size = rw (e.base, e.size) (ltb-true _ _ (and_right (leb (code_section (image l)).base a) _ h)) in
      sym (located s a (locate_in 1 (rows 4 section_row s) a) refl l refl) ∙ code_located 1 0 a (rows 4 section_row s) none_overlap low high ∙ ap (λ (n : ℕ). key n a) e.number

  in_code_section : (x : SymbolRow) → rules.is_function_symbol (image l) x ≡ true → contains (code_section (image l)) x.address ≡ true
  in_code_section x h = and_right (rules.is_symbol (image l) x) _ (and_left _ _ h)

  -- function symbols ascend
  rising : (rs : List SymbolRow) → rules.all (rules.is_function_symbol (image l)) rs ≡ true → rules.chained (rules.is_below (image l)) rs ≡ true → Rising self (map own_address rs)
  rising [] p q = tt
  rising (x ∷ []) p q = (tt, tt)
  rising (x ∷ y ∷ rs) p q =
      let ys : rules.all (rules.is_function_symbol (image l)) (y ∷ rs) ≡ true = and_right (rules.is_function_symbol (image l) x) _ p in
      let lt : locate (image l) x.address < locate (image l) y.address = ltb-true _ _ (and_left _ _ q) in
      let kx : locate (image l) x.address ≡ key (code_number (image l)) x.address = code_key x.address (in_code_section x (and_left _ _ p)) in
      let ky : locate (image l) y.address ≡ key (code_number (image l)) y.address = code_key y.address (in_code_section y (and_left _ _ ys)) in
      (omega arith, rising (y ∷ rs) ys (and_right (rules.is_below (image l) x y) _ q))

  -- object symbols ascend by their keys, which the sections alone say
  key_seen : (a : ℕ) → locate (image l) a ≡ locate (seen l.sections) a
  key_seen a =
      let s : List ℕ = l.sections in
      sym (located s a (locate_in 1 (rows 4 section_row s) a) refl l refl) ∙ located s a (locate_in 1 (rows 4 section_row s) a) refl (lent s [] [] [] [] [] []) refl

  keys_rise : (rs : List SymbolRow) → rules.chained (rules.is_below (image l)) rs ≡ true → Rising self (map (λ (x : SymbolRow). locate (seen l.sections) x.address) rs)
  keys_rise [] q = tt
  keys_rise (x ∷ []) q = (tt, tt)
  keys_rise (x ∷ y ∷ rs) q =
      let lt : locate (image l) x.address < locate (image l) y.address = ltb-true _ _ (and_left _ _ q) in
      (omega (arith, key_seen x.address, key_seen y.address), keys_rise (y ∷ rs) (and_right (rules.is_below (image l) x y) _ q))

  -- the parts of check 3
  functions_pass : rules.are_symbols (image l) (rules.is_function_symbol (image l)) (rows 3 symbol_row l.functions) ≡ true
  unfolding rules.check_rest given
  functions_pass = and_left _ _ (and_left _ _ (and_left _ _ passed.rest))

  objects_pass : rules.are_symbols (image l) (rules.is_object_symbol (image l)) (rows 3 symbol_row l.objects) ≡ true
  unfolding rules.check_rest given
  objects_pass =
      and_right (rules.are_symbols (image l) (rules.is_function_symbol (image l)) (rows 3 symbol_row l.functions)) _
      (and_left _ _ (and_left _ _ passed.rest))

  skips_pass : rules.are_skips (image l) (rows 2 skip_row l.skips) ≡ true
  unfolding rules.check_rest given
  skips_pass =
      and_right (rules.are_symbols (image l) (rules.is_function_symbol (image l)) (rows 3 symbol_row l.functions) && rules.are_symbols (image l) (rules.is_object_symbol (image l)) (rows 3 symbol_row l.objects)) _
      (and_left _ _ passed.rest)

  -- every row of each list is whole
  pub whole_functions : length l.functions % 3 ≡ 0
  unfolding if
  whole_functions = whole_of 3 (omega arith) symbol_row (rules.is_function_symbol (image l)) (half_function (image l)) l.functions (and_right (leb (length (rows 3 symbol_row l.functions)) 1024) _ (and_left _ _ functions_pass))

  whole_objects : length l.objects % 3 ≡ 0
  unfolding if
  whole_objects = whole_of 3 (omega arith) symbol_row (rules.is_object_symbol (image l)) (half_object (image l)) l.objects (and_right (leb (length (rows 3 symbol_row l.objects)) 1024) _ (and_left _ _ objects_pass))

  pub whole_skips : length l.skips % 2 ≡ 0
  whole_skips = whole_of 2 (omega arith) skip_row (rules.is_skip (image l)) (not_a_skip (image l)) l.skips (and_right (leb (length (rows 2 skip_row l.skips)) 64) _ (and_left _ _ skips_pass))

  -- what halving asks of the skip ranges
  pub skips_rise : Ascending l.skips
  skips_rise =
      record {
        whole = whole_skips;
        nonempty = nonempty_all (image l) (rows 2 skip_row l.skips) (and_right (leb (length (rows 2 skip_row l.skips)) 64) _ (and_left _ _ skips_pass));
        order = and_right (leb (length (rows 2 skip_row l.skips)) 64 && rules.all (rules.is_skip (image l)) (rows 2 skip_row l.skips)) _ skips_pass;
      }

  pub functions_rise : Rising self (addresses l.functions)
  functions_rise =
      rising (rows 3 symbol_row l.functions) (and_right (leb (length (rows 3 symbol_row l.functions)) 1024) _ (and_left _ _ functions_pass))
      (and_right (leb (length (rows 3 symbol_row l.functions)) 1024 && rules.all (rules.is_function_symbol (image l)) (rows 3 symbol_row l.functions)) _ functions_pass)

  -- and of the object symbols
  pub objects_rise : KeysAscend l.sections l.objects
  objects_rise =
      record {
        whole = whole_objects;
        rise = keys_rise (rows 3 symbol_row l.objects) (and_right (leb (length (rows 3 symbol_row l.objects)) 1024 && rules.all (rules.is_object_symbol (image l)) (rows 3 symbol_row l.objects)) _ objects_pass);
      }

  pub whole_outcomes : length l.outcomes % 6 ≡ 0
  unfolding rules.check_outcomes given
  whole_outcomes = whole_of 6 (omega arith) outcome_row (rules.is_outcome (image l)) (not_an_outcome (image l)) l.outcomes (and_right (eqb (length (rows 6 outcome_row l.outcomes)) (images.code_words (image l))) _ passed.outcomes)

  count_outcomes : length (rows 6 outcome_row l.outcomes) ≡ (code_section (image l)).size / 4
  unfolding rules.check_outcomes given images.code_words
  count_outcomes = eqb-true _ _ (and_left _ _ passed.outcomes)

  -- each code word has a row
  pub outcome_row_end : (i : ℕ) → i < images.code_words (image l) → i * 6 + 6 ≤ length l.outcomes
  unfolding images.code_words
  outcome_row_end i h = omega (arith, count_outcomes, rows_count 6 (omega arith) outcome_row l.outcomes whole_outcomes)

  module _ (c : Code) (code : IsCode l c) where
    pub in_bytes : InBytes l.bytes c
    in_bytes = record { words = rw code.size (checked_of (given l) checked).sound.aligned; bytes = code.inside passed.image }

    pub at_address : (k : ℕ) → contains (code_section (image l)) (address_of k) ≡ true → InCode l.outcomes c k
    at_address k i =
        let low : (code_section (image l)).base ≤ address_of k = leb-true _ _ (and_left _ _ i) in
        let high : address_of k < (code_section (image l)).base + (code_section (image l)).size = ltb-true _ _ (and_right (leb (code_section (image l)).base (address_of k)) _ i) in
        let n : length l.outcomes / 6 ≡ length (rows 6 outcome_row l.outcomes) = rows_count 6 (omega arith) outcome_row l.outcomes whole_outcomes in
        record { low = omega (arith, code.base); row = omega (arith, code.base, code.size, count_outcomes, whole_outcomes, (checked_of (given l) checked).sound.aligned) }

    pub at_code : (k : ℕ) → in_code (image l) k ≡ true → InCode l.outcomes c k
    unfolding in_code
    at_code k h = at_address k (and_right (eqb (section_of k) (code_number (image l))) _ h)
