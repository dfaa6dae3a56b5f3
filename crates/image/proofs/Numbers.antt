-- Which number the checks give for each list and each header: `stated`. Assumes nothing.
use Prim.Native.Nat.{ℕ, ◌+◌, ◌*◌, ◌%◌, ◌≤◌, ◌<◌}
use mathlib.Core.Path.{◌≡◌, refl, sym, ap, ◌∙◌}
use mathlib.Core.Bool.{Bool, true, false, ◌&&◌, false≢true}
use mathlib.Core.List.{List, []}
use native.Mathlib.Omega.{arith}
use lib.Dec.{leb, eqb}
use lib.ListN.{length, take}
use lib.Seq.{length-take-le}
use borrow.Author.Tests.{leb-false, eqb-false, le-leb}
use Rattle.rules.specs.Choice.{if_true, if_false}
use Rattle.rules.specs.Image.{Image, code_words}
use Rattle.rules.specs.Check as rules
use Rattle.rules.proofs.Tests.{and_left, and_right, and_both}
use Rattle.rules.proofs.Passes.{passed_of}
use Rattle.obj.specs.Lent.{lent, rows, outcome_row, symbol_row, skip_row, given}
use Rattle.obj_rows.proofs.SymbolRows.{more_entries}
use Rattle.obj_image.proofs.CheckImage.{few_of}
use Rattle.obj_image.proofs.Rows.{whole_of}
use Rattle.obj.proofs.Numbers.{not_an_outcome}
use Rattle.obj.proofs.Ready.{whole_functions, objects_rise, skips_rise}
use Rattle.image.specs.Lists.{KIND, READING, SECTIONS, OUTCOMES, FUNCTIONS, OBJECTS, SKIPS, ENTRY, RELOCATIONS, HEADER, head, part, inside, sections_of, entry_of, lent_of, image_at, first_there, second_there, third_there, stated}
use Rattle.image.proofs.Parts.{head_none, part_outside, whole_outside, whole_refused, no_entry}

-- ---- a list that does not lie inside has five numbers

module _ (i : List ℕ) (h w : ℕ) where
  five : length i < head i h + head i (h + 1) * w → length (part i h w) ≡ 5
  five out =
      let e : take 5 i ≡ part i h w = part_outside i h w (head i h) (head i (h + 1)) refl refl out in
      let long : 5 ≤ length i = whole_outside i h w (head i h) (head i (h + 1)) refl refl out in
      ap length (sym e) ∙ length-take-le 5 i long

  -- so one that has another length lies inside
  lies : (length (part i h w) ≡ 5 → ⊥) → inside i h w ≡ true
  lies n = go (inside i h w) refl
    where
      go : (t : Bool) → inside i h w ≡ t → inside i h w ≡ true
      go true e = e
      go false e = absurd (n (five (leb-false _ _ e)))

-- no list of a header that is not whole
no_list : (i : List ℕ) → length i < HEADER → part i SECTIONS 4 ≡ []
unfolding part
no_list i k = rw (← head_none i 2 k, ← head_none i 3 k) (if_true (le-leb 0 (length i) (omega arith)) _ _)

none_fail : (b o f j k e : List ℕ) → rules.check_image (given (lent [] b o f j k e)) ≡ false
unfolding rules.check_image given rows
none_fail b o f j k e = refl

-- a test that follows from another need not be asked beside it
absorbed : (a b : Bool) → (b ≡ true → a ≡ true) → (a && b) ≡ b
absorbed true b h = refl
absorbed false true h = h refl
absorbed false false h = refl

module _ (i b : List ℕ) where
  -- ---- check 1

  no_image : sections_of i ≡ [] → rules.check_image (given (lent_of i b)) ≡ true → ⊥
  no_image e h = false≢true (sym (rw e (none_fail b _ _ _ _ _)) ∙ h)

  module _ (h : rules.check_image (given (lent_of i b)) ≡ true) where
    known_kind : (eqb (head i KIND) 0 && eqb (head i (RELOCATIONS + 1)) 0) ≡ true
    unfolding sections_of
    known_kind = go (eqb (head i KIND) 0 && eqb (head i (RELOCATIONS + 1)) 0) refl
      where
        go : (t : Bool) → (eqb (head i KIND) 0 && eqb (head i (RELOCATIONS + 1)) 0) ≡ t → (eqb (head i KIND) 0 && eqb (head i (RELOCATIONS + 1)) 0) ≡ true
        go true e = e
        go false e = absurd (no_image (if_false e _ _) h)

    sections_are_part : sections_of i ≡ part i SECTIONS 4
    unfolding sections_of
    sections_are_part = if_true known_kind _ _

    whole_header : leb HEADER (length i) ≡ true
    whole_header = go (leb HEADER (length i)) refl
      where
        go : (t : Bool) → leb HEADER (length i) ≡ t → leb HEADER (length i) ≡ true
        go true e = e
        go false e = absurd (no_image (sections_are_part ∙ no_list i (leb-false _ _ e)) h)

    sections_inside : inside i SECTIONS 4 ≡ true
    sections_inside =
        lies i SECTIONS 4
        (λ e. let z : length (sections_of i) % 4 ≡ 0 = (few_of (lent_of i b) h).whole in let y : 5 % 4 ≡ 0 = rw (sections_are_part, e) at z in absurd (omega arith))

    first_passes : first_there i ≡ true
    first_passes =
        and_both (leb HEADER (length i) && eqb (head i KIND) 0 && eqb (head i (RELOCATIONS + 1)) 0) _
        (and_both (leb HEADER (length i) && eqb (head i KIND) 0) _
        (and_both (leb HEADER (length i)) _ whole_header (and_left _ _ known_kind))
        (and_right (eqb (head i KIND) 0) _ known_kind))
        sections_inside

  -- ---- check 2

  second_passes : rules.check_outcomes (image_at i b) (given (lent_of i b)) ≡ true → second_there i ≡ true
  unfolding rules.check_outcomes given
  second_passes h = lies i OUTCOMES 6 other
    where
      other : length (part i OUTCOMES 6) ≡ 5 → ⊥
      other e =
          let im : Image = image_at i b in
          let z : length (part i OUTCOMES 6) % 6 ≡ 0 = whole_of 6 (omega arith) outcome_row (rules.is_outcome im) (not_an_outcome im) (part i OUTCOMES 6) (and_right (eqb (length (rows 6 outcome_row (part i OUTCOMES 6))) (code_words im)) _ h) in
          let y : 5 % 6 ≡ 0 = rw e at z in absurd (omega arith)

  -- ---- check 3, of what passed the other two

  module _ (h : rules.check (given (lent_of i b)) ≡ 0) where
    entries_pass : rules.are_entries (image_at i b) (entry_of i) ≡ true
    unfolding rules.check_rest given
    entries_pass =
        let im : Image = image_at i b in
        and_right
        (rules.are_symbols im (rules.is_function_symbol im) (rows 3 symbol_row (part i FUNCTIONS 3)) && rules.are_symbols im (rules.is_object_symbol im) (rows 3 symbol_row (part i OBJECTS 3)) && rules.are_skips im (rows 2 skip_row (part i SKIPS 2)))
        _ (passed_of (given (lent_of i b)) h).rest

    entry_few : length (entry_of i) ≡ 5 → ⊥
    entry_few e =
        false≢true (more_entries (image_at i b) (entry_of i) (λ z. absurd (omega (arith, e, z))) (λ z. absurd (omega (arith, e, z))) ∙ entries_pass)

    known_reading : eqb (head i READING) 0 ≡ true
    known_reading = go (eqb (head i READING) 0) refl
      where
        go : (t : Bool) → eqb (head i READING) 0 ≡ t → eqb (head i READING) 0 ≡ true
        go true e = e
        go false e =
            let long : 5 ≤ length i = whole_refused i (head i READING) refl (eqb-false _ _ e) in
            let same : take 5 i ≡ entry_of i = no_entry i (head i READING) refl (eqb-false _ _ e) in
            absurd (entry_few (ap length (sym same) ∙ length-take-le 5 i long))

    entry_is_part : entry_of i ≡ part i ENTRY 1
    unfolding entry_of
    entry_is_part = if_true known_reading _ _

    functions_inside : inside i FUNCTIONS 3 ≡ true
    functions_inside =
        lies i FUNCTIONS 3
        (λ e. let z : length (part i FUNCTIONS 3) % 3 ≡ 0 = whole_functions (lent_of i b) h in let y : 5 % 3 ≡ 0 = rw e at z in absurd (omega arith))

    objects_inside : inside i OBJECTS 3 ≡ true
    objects_inside =
        lies i OBJECTS 3
        (λ e. let z : length (part i OBJECTS 3) % 3 ≡ 0 = (objects_rise (lent_of i b) h).whole in let y : 5 % 3 ≡ 0 = rw e at z in absurd (omega arith))

    skips_inside : inside i SKIPS 2 ≡ true
    skips_inside =
        lies i SKIPS 2
        (λ e. let z : length (part i SKIPS 2) % 2 ≡ 0 = (skips_rise (lent_of i b) h).whole in let y : 5 % 2 ≡ 0 = rw e at z in absurd (omega arith))

    entry_inside : inside i ENTRY 1 ≡ true
    entry_inside = lies i ENTRY 1 (λ e. entry_few (ap length entry_is_part ∙ e))

    third_passes : third_there i ≡ true
    third_passes =
        and_both (eqb (head i READING) 0 && inside i FUNCTIONS 3 && inside i OBJECTS 3 && inside i SKIPS 2) _
        (and_both (eqb (head i READING) 0 && inside i FUNCTIONS 3 && inside i OBJECTS 3) _
        (and_both (eqb (head i READING) 0 && inside i FUNCTIONS 3) _
        (and_both (eqb (head i READING) 0) _ known_reading functions_inside)
        objects_inside)
        skips_inside)
        entry_inside

  -- ---- the number

  first_is : (first_there i && rules.check_image (given (lent_of i b))) ≡ rules.check_image (given (lent_of i b))
  first_is = absorbed (first_there i) _ first_passes

  second_is : (second_there i && rules.check_outcomes (image_at i b) (given (lent_of i b))) ≡ rules.check_outcomes (image_at i b) (given (lent_of i b))
  second_is = absorbed (second_there i) _ second_passes

  -- the check of the lists is 1, 2, 3 or 0 as is stated of the header and each list
  pub stated_is : rules.check (given (lent_of i b)) ≡ stated i b
  unfolding rules.check
  stated_is = first (rules.check_image (given (lent_of i b))) refl
    where
      third : (t : Bool) → rules.check_image (given (lent_of i b)) ≡ true → rules.check_outcomes (image_at i b) (given (lent_of i b)) ≡ true → rules.check_rest (image_at i b) (given (lent_of i b)) ≡ t → rules.check (given (lent_of i b)) ≡ stated i b
      third t e f g =
          let last_is : (third_there i && rules.check_rest (image_at i b) (given (lent_of i b))) ≡ rules.check_rest (image_at i b) (given (lent_of i b)) = absorbed (third_there i) _ (λ k. third_passes (if_true e _ _ ∙ if_true f _ _ ∙ if_true k _ _)) in
          rw (first_is, second_is, last_is) refl

      second : (t : Bool) → rules.check_image (given (lent_of i b)) ≡ true → rules.check_outcomes (image_at i b) (given (lent_of i b)) ≡ t → rules.check (given (lent_of i b)) ≡ stated i b
      second false e f = if_true e _ _ ∙ if_false f _ _ ∙ sym (if_true (first_is ∙ e) _ _ ∙ if_false (second_is ∙ f) _ _)
      second true e f = third (rules.check_rest (image_at i b) (given (lent_of i b))) e f refl

      first : (t : Bool) → rules.check_image (given (lent_of i b)) ≡ t → rules.check (given (lent_of i b)) ≡ stated i b
      first false e = if_false e _ _ ∙ sym (if_false (first_is ∙ e) _ _)
      first true e = second (rules.check_outcomes (image_at i b) (given (lent_of i b))) e refl
