-- One round, step by step.
use Rattle.std.proofs.Common.{◌≡◌, ℕ, Bool, true, false, List, sym, ap, ◌∙◌}
use Rattle.std.specs.Prelude.{Some, None}
use borrow.Author.Tests.{eq-eqb, ne_eqb}
use Rattle.rules.specs.Choice.{if_true, if_false, ok, fault, ◌>>=◌}
use Rattle.rules.specs.Image.{Image}
use Rattle.rules.specs.Known.{Entry}
use Rattle.rules.specs.Map as rules
use Rattle.obj_info.specs.Info.{some_nonzero}
use Rattle.walks.proofs.Steps.{after_ok, after_err}
use Rattle.walks.proofs.Options.{found, not_found}

module _ (im : Image) (cap : rules.Capacity) (es : List Entry) where
  -- ---- what can be is finalized, or else new ones are searched for

  pub turn_fails : (n : ℕ) → rules.finalize_functions im cap false es ≡ fault n → rules.finalize_or_detect im cap es ≡ fault n
  unfolding rules.finalize_or_detect
  turn_fails n e = after_err _ (sym e)

  module _ (changed : Bool) (fs : List Entry) (e : rules.finalize_functions im cap false es ≡ ok (rules.round changed fs)) where
    pub turn_finalizes : changed ≡ true → rules.finalize_or_detect im cap es ≡ ok (rules.round true fs)
    unfolding rules.finalize_or_detect
    turn_finalizes h = after_ok _ (sym e) ∙ if_true h _ _ ∙ ap (λ b. ok (rules.round b fs)) h

    pub turn_searches : changed ≡ false → rules.finalize_or_detect im cap es ≡ rules.detect_new_functions im cap fs
    unfolding rules.finalize_or_detect
    turn_searches h = after_ok _ (sym e) ∙ if_false h _ _

  -- ---- an entry is walked, if one is not analyzed

  module _ (before : Bool) where
    pub step_turns : None ≡ some_nonzero (rules.first_unbounded_function es) → rules.process_step im cap (rules.round before es) ≡ rules.finalize_or_detect im cap es
    unfolding rules.process_step rules.process_next
    step_turns e = if_true (eq-eqb _ _ (not_found _ e)) _ _

    module _ (k : ℕ) (e : Some k ≡ some_nonzero (rules.first_unbounded_function es)) where
      walks : rules.process_step im cap (rules.round before es) ≡ (rules.process_function_at im cap k es >>= λ fs. ok (rules.round true fs))
      unfolding rules.process_step rules.process_next
      walks =
          let f = found _ k e in
          if_false (ne_eqb _ _ f.1) _ _ ∙ ap (λ j. rules.process_function_at im cap j es >>= λ fs. ok (rules.round true fs)) f.0

      pub walk_fails : (n : ℕ) → rules.process_function_at im cap k es ≡ fault n → rules.process_step im cap (rules.round before es) ≡ fault n
      walk_fails n f = walks ∙ after_err _ (sym f)

      pub step_walks : (fs : List Entry) → rules.process_function_at im cap k es ≡ ok fs → rules.process_step im cap (rules.round before es) ≡ ok (rules.round true fs)
      step_walks fs f = walks ∙ after_ok _ (sym f)

    -- ---- possible blocks taken for the function's own

    pub last_fails : (n : ℕ) → rules.finalize_functions im cap true es ≡ fault n → rules.last_step im cap (rules.round before es) ≡ fault n
    unfolding rules.last_step
    last_fails n e = after_err _ (sym e)

    module _ (changed : Bool) (fs : List Entry) (e : rules.finalize_functions im cap true es ≡ ok (rules.round changed fs)) where
      pub last_ends : changed ≡ false → rules.last_step im cap (rules.round before es) ≡ ok (rules.round false fs)
      unfolding rules.last_step
      last_ends h = after_ok _ (sym e) ∙ if_false h _ _ ∙ ap (λ b. ok (rules.round b fs)) h

      module _ (h : changed ≡ true) where
        pub rounds_fail : (n : ℕ) → rules.process_functions im cap fs ≡ fault n → rules.last_step im cap (rules.round before es) ≡ fault n
        unfolding rules.last_step
        rounds_fail n f = after_ok _ (sym e) ∙ if_true h _ _ ∙ after_err _ (sym f)

        pub last_goes : (gs : List Entry) → rules.process_functions im cap fs ≡ ok gs → rules.last_step im cap (rules.round before es) ≡ ok (rules.round true gs)
        unfolding rules.last_step
        last_goes gs f = after_ok _ (sym e) ∙ if_true h _ _ ∙ after_ok _ (sym f)
