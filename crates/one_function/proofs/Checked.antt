-- What is asked: refused under a number from 1 to 3 where it breaks a rule, else walked.
use Rattle.std.proofs.Common.{◌≡◌, ℕ, ◌%◌, ◌≤◌, refl, sym, ap, ◌∙◌, List, [], length, Bool, true, false, ◌&&◌, eqb, arith}
use lib.Dec.{lit≤}
use borrow.Author.Tests.{eq-eqb, ne_eqb, le-leb}
use Rattle.std.specs.Prelude.{Result, Err}
use Rattle.rules.specs.Choice.{if, if_true, if_false, fault}
use Rattle.rules.specs.Address.{address_of, section_of}
use Rattle.rules.specs.Image.{Image, code_number, code_section, contains, in_code}
use Rattle.rules.specs.Given.{Given, image_of}
use Rattle.rules.specs.Check.{check}
use Rattle.rules.specs.Blocks.{Block}
use Rattle.rules.specs.Slices.{with_only}
use Rattle.rules.specs.Analyze.{analyze}
use Rattle.rules.specs.OneFunction as rules
use Rattle.rules.proofs.Runs.{check_most}
use Rattle.faults.specs.declared.Fault.{Fault}
use Rattle.faults.specs.declared.Fault.TheVariants.{Image as broken_image, List as broken_list}
use Rattle.faults.specs.Number.{number_of}
use Rattle.one_function.specs.declared.Function.{Function}
use Rattle.one_function.specs.Results.{kept_in, Finished, Told}
use Rattle.one_function.proofs.Stored.{told_walk}

-- ---- the start

aligned_code : (a b c : Bool) → (a && b && c) ≡ (a && (c && b))
aligned_code true true true = refl
aligned_code true true false = refl
aligned_code true false true = refl
aligned_code true false false = refl
aligned_code false b c = refl

-- an aligned address of code
pub start_is : (im : Image) (k : ℕ) (r : Bool) → r ≡ in_code im k → (r && eqb (k % 4) 0) ≡ rules.is_start im k
unfolding rules.is_start in_code
start_is im k r e =
    let low : k % 4 ≡ address_of k % 4 = omega arith in
    rw (e, low) (aligned_code (eqb (section_of k) (code_number im)) (contains (code_section im) (address_of k)) (eqb (address_of k % 4) 0))

-- ---- refused

fault_some : (e : Fault) → 1 ≤ number_of e
fault_some broken_image = lit≤ tt
fault_some _ = lit≤ tt

module _ (g : Given) (right : Bool) (known : List Block) (start end : ℕ) (before : List ℕ) where
  abbrev checked : ℕ
  checked = rules.check_one g right start end

  abbrev Answered : List ℕ → Result Function Fault → Type 0
  Answered after r = Told (rules.walk_function g right known start end (length before)) before after r

  refused : (e : Fault) → number_of e ≡ checked → number_of e ≤ 3 → Answered before (Err e)
  unfolding rules.walk_function
  refused e is most =
      let some : checked ≡ 0 → ⊥ = λ z. omega (arith, fault_some e) in
      let what : rules.walk_function g right known start end (length before) ≡ fault checked = if_false (ne_eqb checked 0 some) _ _ in
      record { answers = rw what (ap fault is, sym (if_true (le-leb checked 3 (rw is at most)) before _)) }

  -- the image
  pub image_refused : (e : Fault) → number_of e ≡ check g → Answered before (Err e)
  unfolding rules.check_one
  image_refused e is =
      let some : check g ≡ 0 → ⊥ = λ z. omega (arith, fault_some e) in
      refused e (is ∙ sym (if_false (ne_eqb (check g) 0 some) _ _)) (omega (arith, check_most g))

  module _ (passes : check g ≡ 0) where
    asked : checked ≡ if (right && rules.is_start (image_of g) start && rules.is_end start end) 0 3
    unfolding rules.check_one
    asked = if_true (eq-eqb (check g) 0 passes) _ _

    -- the known functions
    pub known_refused : (e : Fault) → right ≡ false → number_of e ≡ 3 → Answered before (Err e)
    known_refused e wrong is = refused e (is ∙ sym (asked ∙ rw wrong (if_false refl _ _))) (omega arith)

    module _ (known_right : right ≡ true) (bounds : Bool) (bounds_are : bounds ≡ (rules.is_start (image_of g) start && rules.is_end start end)) where
      -- start and end
      pub bounds_refused : bounds ≡ false → Answered before (Err broken_list)
      bounds_refused h = refused broken_list (sym (asked ∙ rw known_right (if_false (sym bounds_are ∙ h) _ _))) (lit≤ tt)

      -- none of it
      pub walked : bounds ≡ true → (after : List ℕ) (r : Result Function Fault) →
          Finished (kept_in (length before) (analyze (rules.around_one (image_of g) known start end) start (with_only []))) (length before) after r →
          Answered after r
      unfolding rules.walk_function
      walked h after r f =
          let passed : checked ≡ 0 = asked ∙ rw known_right (if_true (sym bounds_are ∙ h) _ _) in
          rw (if_true (eq-eqb checked 0 passed) (kept_in (length before) (analyze (rules.around_one (image_of g) known start end) start (with_only []))) (fault checked))
          (told_walk (rules.around_one (image_of g) known start end) start (with_only []) before after r f)
