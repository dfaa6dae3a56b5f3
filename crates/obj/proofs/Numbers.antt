-- Checks 1 to 3 as a whole. Assumes nothing.
use Prim.Native.Nat.{ℕ, ◌/◌, ◌%◌, ◌<◌}
use mathlib.Core.Path.{◌≡◌, refl, sym, ap, ◌∙◌}
use mathlib.Core.Bool.{Bool, true, false, ◌&&◌, and-false}
use mathlib.Core.List.{List, [], map}
use native.Mathlib.Omega.{arith}
use lib.Dec.{leb, eqb}
use lib.ListN.{length, get_or, length-map}
use borrow.Author.Tests.{eq-eqb, ne_eqb}
use Rattle.rules.specs.Choice.{if, by_if, if_true, if_false}
use Rattle.rules.specs.Image.{Image, code_words}
use Rattle.rules.specs.Given.{Given, OutcomeRow, image_of}
use Rattle.rules.specs.Check as rules
use Rattle.obj_image.specs.Lent.{lent, rows, outcome_row, symbol_row, skip_row, given, seen}
use Rattle.obj.specs.Sections.{Few}
use Rattle.obj.specs.declared.sections.Code.{Code}
use Rattle.obj_image.proofs.Rows.{rows_chunks, not_whole}
use Rattle.obj_rows.specs.Outcomes.{read_outcome}
use Rattle.obj_rows.proofs.OutcomeRows.{whole_outcome}
use Rattle.std.specs.Simd.{first_chunks}
use Rattle.obj_image.proofs.CheckImage.{For, few_of}
use Rattle.obj.proofs.Seen.{CodeIs, words_is}
use Rattle.obj.proofs.Alike.{alike_seen, outcomes_alike, rest_alike}

-- ---- check 2

-- an outcome that is not whole has no kind
pub not_an_outcome : (im : Image) (c : List ℕ) → length c < 6 → rules.is_outcome im (outcome_row c) ≡ false
unfolding if
not_an_outcome im c h =
    let n : eqb (length c) 6 ≡ false = ne_eqb (length c) 6 (omega arith) in
    by_if (λ (r : OutcomeRow). rules.is_outcome im r ≡ false) (leb 6 (get_or c 0 0)) (λ _. rw n refl) (λ _. rw n refl)

module _ (s o : List ℕ) where
  abbrev outcomes_given : Given
  outcomes_given = given (lent s [] o [] [] [] [])

  pub outcomes_broken : (length o % 6 ≡ 0 → ⊥) → false ≡ rules.check_outcomes (seen s) outcomes_given
  unfolding rules.check_outcomes given
  outcomes_broken h =
      let k : false ≡ rules.all (rules.is_outcome (seen s)) (rows 6 outcome_row o) = not_whole 6 (omega arith) outcome_row (rules.is_outcome (seen s)) (not_an_outcome (seen s)) o h in
      rw (← k) (sym (and-false (eqb (length (rows 6 outcome_row o)) (code_words (seen s)))))

  module _ (c : Code) (is : CodeIs s c) (whole : length o % 6 ≡ 0) (cs : List (List ℕ)) (cut : cs ≡ first_chunks 6 (length o / 6) o) where
    outcome_rows : rows 6 outcome_row o ≡ map read_outcome cs
    outcome_rows = rows_chunks 6 (omega arith) outcome_row read_outcome (λ x h. whole_outcome x h) o whole ∙ ap (map read_outcome) (sym cut)

    counts : eqb (length (rows 6 outcome_row o)) (code_words (seen s)) ≡ eqb (length cs) (c.size / 4)
    unfolding code_words
    counts = rw (outcome_rows, length-map, words_is s c is) refl

    pub outcomes_are : (b : Bool) → length cs ≡ c.size / 4 → b ≡ rules.all (rules.is_outcome (seen s)) (map read_outcome cs) → b ≡ rules.check_outcomes (seen s) outcomes_given
    unfolding rules.check_outcomes given
    outcomes_are b h e = rw (counts, eq-eqb _ _ h, outcome_rows) e

    pub outcomes_miscounted : (length cs ≡ c.size / 4 → ⊥) → eqb (length cs) (c.size / 4) ≡ rules.check_outcomes (seen s) outcomes_given
    unfolding rules.check_outcomes given
    outcomes_miscounted h = rw (counts, ne_eqb _ _ h) refl

-- ---- check 3

pub rest_is : (s f j k e : List ℕ) (a b c d : Bool) → a ≡ rules.are_symbols (seen s) (rules.is_function_symbol (seen s)) (rows 3 symbol_row f) → b ≡ rules.are_symbols (seen s) (rules.is_object_symbol (seen s)) (rows 3 symbol_row j) → c ≡ rules.are_skips (seen s) (rows 2 skip_row k) → d ≡ rules.are_entries (seen s) e → (a && b && c && d) ≡ rules.check_rest (seen s) (given (lent [] [] [] f j k e))
unfolding rules.check_rest given if
rest_is s f j k e a b c d ea eb ec ed = rw (ea, eb, ec, ed) refl

-- ---- all three

pub few_passed : (s b : List ℕ) (one : Bool) → For s b (λ l. rules.check_image (given l)) one → one ≡ true → Few s
few_passed s b one is h = few_of (lent s b [] [] [] [] []) (sym (is (lent s b [] [] [] [] []) refl refl) ∙ h)

module _ (s b o f j k e : List ℕ) where
  abbrev all_given : Given
  all_given = given (lent s b o f j k e)

  same_outcomes : rules.check_outcomes (image_of all_given) all_given ≡ rules.check_outcomes (seen s) (given (lent s [] o [] [] [] []))
  unfolding rules.check_outcomes given
  same_outcomes = outcomes_alike (image_of all_given) (seen s) (alike_seen (lent s b o f j k e)) all_given

  same_rest : rules.check_rest (image_of all_given) all_given ≡ rules.check_rest (seen s) (given (lent [] [] [] f j k e))
  unfolding rules.check_rest given
  same_rest = rest_alike (image_of all_given) (seen s) (alike_seen (lent s b o f j k e)) all_given

  module _ (one : Bool) (is_one : For s b (λ l. rules.check_image (given l)) one) where
    image_holds : one ≡ rules.check_image all_given
    image_holds = is_one (lent s b o f j k e) refl refl

    pub check_one : one ≡ false → 1 ≡ rules.check all_given
    unfolding rules.check
    check_one h = sym (if_false (sym image_holds ∙ h) _ _)

    module _ (passed : one ≡ true) (two : Bool) (is_two : two ≡ rules.check_outcomes (seen s) (given (lent s [] o [] [] [] []))) where
      pub check_two : two ≡ false → 2 ≡ rules.check all_given
      unfolding rules.check
      check_two h = sym (if_true (sym image_holds ∙ passed) _ _ ∙ if_false (same_outcomes ∙ sym is_two ∙ h) _ _)

      module _ (done : two ≡ true) (three : Bool) (is_three : three ≡ rules.check_rest (seen s) (given (lent [] [] [] f j k e))) where
        pub check_three : three ≡ false → 3 ≡ rules.check all_given
        unfolding rules.check
        check_three h = sym (if_true (sym image_holds ∙ passed) _ _ ∙ if_true (same_outcomes ∙ sym is_two ∙ done) _ _ ∙ if_false (same_rest ∙ sym is_three ∙ h) _ _)

        pub check_none : three ≡ true → 0 ≡ rules.check all_given
        unfolding rules.check
        check_none h = sym (if_true (sym image_holds ∙ passed) _ _ ∙ if_true (same_outcomes ∙ sym is_two ∙ done) _ _ ∙ if_true (same_rest ∙ sym is_three ∙ h) _ _)
