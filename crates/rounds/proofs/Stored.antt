-- A function walked and stored, step by step.
use Rattle.std.proofs.Common.{◌≡◌, ℕ, Bool, true, false, List, [], sym, ap, ◌∙◌}
use Rattle.rules.specs.Choice.{if_true, if_false, Answer, ok, fault}
use Rattle.rules.specs.Ordered.{empty}
use Rattle.rules.specs.Blocks.{last_end}
use Rattle.rules.specs.Image.{Image}
use Rattle.rules.specs.Slices.{Slices, with_only}
use Rattle.rules.specs.Known.{Entry, end_of_entry}
use Rattle.rules.specs.Analyze.{Analyzed, analyze}
use Rattle.rules.specs.Finalize.{finalize}
use Rattle.rules.specs.Map as rules
use Rattle.std.specs.Prelude.{Option, unwrap_or}
use Rattle.obj_info.specs.Info.{some_nonzero}
use Rattle.walks.proofs.Options.{located}
use Rattle.walks.proofs.Steps.{after_ok, after_err}

-- ---- an end

pub end_is : (o p : Option ℕ) (n : ℕ) → p ≡ some_nonzero (unwrap_or o 0) → o ≡ some_nonzero n → unwrap_or p 0 ≡ n
end_is o p n e f = located p (unwrap_or o 0) e ∙ located o n f

-- 0 is none
pub end_kept : (p : Option ℕ) (n : ℕ) → p ≡ some_nonzero n → p ≡ some_nonzero (unwrap_or p 0)
end_kept p n e = e ∙ ap some_nonzero (sym (located p n e))

-- ---- a function

module _ (im : Image) (cap : rules.Capacity) (key : ℕ) (es : List Entry) where
  -- ---- finalized at once

  module _ (s : Slices) where
    pub final_fails : (n : ℕ) → fault n ≡ finalize im es s → rules.store_final im cap key s es ≡ fault n
    unfolding rules.store_final
    final_fails n e = after_err _ e

    pub final_stored : (t : Slices) → ok t ≡ finalize im es s → rules.store_final im cap key s es ≡ rules.store cap key t (last_end t.blocks) es
    unfolding rules.store_final
    final_stored t e = after_ok _ e

    -- ---- behind what it refers to

    pub function_fails : (n : ℕ) → rules.try_add_functions im cap s.function_references es ≡ fault n → rules.store_function im cap key s es ≡ fault n
    unfolding rules.store_function
    function_fails n e = after_err _ (sym e)

    module _ (fs : List Entry) (e : rules.try_add_functions im cap s.function_references es ≡ ok fs) where
      pub function_final : true ≡ empty s.possible_blocks → rules.store_function im cap key s es ≡ rules.store_final im cap key s fs
      unfolding rules.store_function
      function_final h = after_ok _ (sym e) ∙ if_true (sym h) _ _

      pub function_stored : false ≡ empty s.possible_blocks → rules.store_function im cap key s es ≡ rules.store cap key s 0 fs
      unfolding rules.store_function
      function_stored h = after_ok _ (sym e) ∙ if_false (sym h) _ _

  -- ---- walked

  abbrev walked : Answer Analyzed
  walked = analyze (rules.around im cap key (end_of_entry key es) es) key (with_only [])

  pub walk_fails : (n : ℕ) → fault n ≡ walked → rules.process_function_at im cap key es ≡ fault n
  unfolding rules.process_function_at
  walk_fails n e = after_err _ e

  module _ (s : Slices) (found : Bool) (e : ok (record { slices = s; found = found }) ≡ walked) where
    pub walk_stored : found ≡ true → rules.process_function_at im cap key es ≡ rules.store_function im cap key s es
    unfolding rules.process_function_at
    walk_stored h = after_ok _ e ∙ if_true h _ _

    pub walk_set_aside : found ≡ false → rules.process_function_at im cap key es ≡ rules.set_aside cap key es
    unfolding rules.process_function_at
    walk_set_aside h = after_ok _ e ∙ if_false h _ _
