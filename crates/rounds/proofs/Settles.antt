-- An entry finalized, step by step.
use Rattle.std.proofs.Common.{◌≡◌, ℕ, Bool, true, false, List, refl, sym, ap, ◌∙◌}
use Rattle.std.proofs.lemmas.Bool.{false≢true}
use Rattle.std.proofs.Math.Option.{Option, none, some}
use Rattle.std.specs.Prelude.{◌||◌}
use Rattle.rules.specs.Choice.{if, if_true, if_false, Answer, ok, fault, ◌>>=◌}
use Rattle.rules.specs.Ordered.{empty}
use Rattle.rules.specs.Blocks.{first_start, last_end}
use Rattle.rules.specs.Image.{Image}
use Rattle.rules.specs.Slices.{Slices}
use Rattle.rules.specs.Known.{Entry, is_some}
use Rattle.rules.specs.Settle.{settling, settle_all}
use Rattle.rules.specs.Finalize.{finalize}
use Rattle.rules.specs.Map as rules
use Rattle.rules.proofs.Binds.{bind_assoc}
use Rattle.settling.specs.Settled.{settled}
use Rattle.walks.proofs.Steps.{after_ok, after_err}
use Rattle.rounds.specs.Settled.{lowest, settled_lists}

-- ---- whether anything was changed

pub or_true : (b : Bool) → true ≡ (b || true)
or_true true = refl
or_true false = refl

pub or_false : (b : Bool) → b ≡ (b || false)
or_false true = refl
or_false false = refl

-- ---- lists that were looked up

-- what was loaded are the entry's
pub loaded : (o : Option Slices) (b : Bool) (t : Slices) → b ≡ is_some o → b ≡ true → ((s : Slices) → o ≡ some s → t ≡ s) → o ≡ some t
loaded none b t e h f = absurd (false≢true (sym e ∙ h))
loaded (some s) b t e h f = ap (λ (u : Slices). some u) (sym (f s refl))

module _ (im : Image) (cap : rules.Capacity) (key : ℕ) (es : List Entry) (before : Bool) where
  abbrev start : rules.Round
  start = rules.round before es

  -- ---- a settled function

  module _ (s : Slices) where
    pub finalize_fails : (n : ℕ) → fault n ≡ finalize im es s → rules.keep_settled im cap key s start ≡ fault n
    unfolding rules.keep_settled
    finalize_fails n e = after_err _ e

    module _ (t : Slices) (e : ok t ≡ finalize im es s) where
      pub refers_fails : (n : ℕ) → rules.try_add_functions im cap t.function_references es ≡ fault n → rules.keep_settled im cap key s start ≡ fault n
      unfolding rules.keep_settled
      refers_fails n f = after_ok _ e ∙ after_err _ (sym f)

      module _ (fs : List Entry) (f : rules.try_add_functions im cap t.function_references es ≡ ok fs) where
        pub store_fails : (n : ℕ) → rules.store cap key t (last_end t.blocks) fs ≡ fault n → rules.keep_settled im cap key s start ≡ fault n
        unfolding rules.keep_settled
        store_fails n g = after_ok _ e ∙ after_ok _ (sym f) ∙ after_err _ (sym g)

        pub settled_stored : (gs : List Entry) → rules.store cap key t (last_end t.blocks) fs ≡ ok gs → rules.keep_settled im cap key s start ≡ ok (rules.round (before || true) gs)
        unfolding rules.keep_settled
        settled_stored gs g = after_ok _ e ∙ after_ok _ (sym f) ∙ after_ok _ (sym g) ∙ ap (λ b. ok (rules.round b gs)) (or_true before)

  -- ---- an entry

  module _ (last : Bool) where
    -- without lists
    pub entry_none : (o : Option Slices) (b : Bool) → b ≡ is_some o → b ≡ false → rules.finalize_entry im cap last key o start ≡ ok (rules.round (before || false) es)
    entry_none none b e h = ap (λ c. ok (rules.round c es)) (or_false before)
    entry_none (some s) b e h = absurd (false≢true (sym h ∙ e))

    -- with these
    module _ (o : Option Slices) (s : Slices) (e : o ≡ some s) where
      abbrev then : Slices → Answer rules.Round
      then u = if (empty u.possible_blocks) (rules.keep_settled im cap key u start) (ok start)

      split : rules.finalize_entry im cap last key o start ≡ (settled_lists im cap last key es s >>= then)
      unfolding rules.finalize_function settled ◌>>=◌
      split =
          ap (λ (l : Option Slices). rules.finalize_entry im cap last key l start) e ∙
          sym (bind_assoc (settle_all (rules.around im cap (first_start s.blocks) (last_end s.blocks) es) (lowest key) last (settling s (lowest key))) (λ u. ok u.slices) then)

      pub settle_fails : (n : ℕ) → fault n ≡ settled_lists im cap last key es s → rules.finalize_entry im cap last key o start ≡ fault n
      settle_fails n f = split ∙ after_err _ f

      module _ (t : Slices) (f : ok t ≡ settled_lists im cap last key es s) where
        pub entry_settled : true ≡ empty t.possible_blocks → rules.finalize_entry im cap last key o start ≡ rules.keep_settled im cap key t start
        entry_settled h = split ∙ after_ok _ f ∙ if_true (sym h) _ _

        pub entry_left : false ≡ empty t.possible_blocks → rules.finalize_entry im cap last key o start ≡ ok (rules.round (before || false) es)
        entry_left h = split ∙ after_ok _ f ∙ if_false (sym h) _ _ ∙ ap (λ c. ok (rules.round c es)) (or_false before)
