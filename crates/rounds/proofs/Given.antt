-- What is known beforehand walked.
use Rattle.std.proofs.Common.{◌≡◌, ℕ, List, [], ◌∷◌, map, refl, sym, ap, ◌∙◌}
use Rattle.std.specs.Prelude.{Some, None}
use borrow.Author.Tests.{eq-eqb, ne_eqb}
use Rattle.rules.specs.Choice.{if_true, if_false, Answer, ok, fault}
use Rattle.rules.specs.Image.{Image}
use Rattle.rules.specs.Known.{Entry, entry_of}
use Rattle.rules.specs.Map as rules
use Rattle.tables.specs.Rows.{row, key_of}
use Rattle.tables.specs.declared.maps.Row.{Row}
use Rattle.walks.specs.Around.{Knows}
use Rattle.walks.proofs.Steps.{after_ok, after_err}
use Rattle.walks.proofs.Options.{found, not_found}
use Rattle.obj_info.specs.Info.{some_nonzero}
use Rattle.analyzer.specs.declared.AnalyzerState.{AnalyzerState}
use Rattle.analyzer.specs.Table.{Holds}
use Rattle.analyzer.specs.Told.{Holding}

-- the entries that the state holds now, which come to the answer once those at the keys are walked
pub record Now (im : Image) (cap : rules.Capacity) (a : Answer (List Entry)) (keys : List ℕ) (s : AnalyzerState) (lists : List ℕ) : Type 0 where
  pub entries : List Entry
  pub holds : Holds cap s lists entries
  pub same : rules.process_each im cap keys entries ≡ a

module _ (im : Image) (cap : rules.Capacity) (a : Answer (List Entry)) (k : ℕ) (keys : List ℕ) (s : AnalyzerState) (lists : List ℕ) (w : Now im cap a (k ∷ keys) s lists) where
  pub walk_fails : (n : ℕ) → rules.process_function_at im cap k w.entries ≡ fault n → a ≡ fault n
  walk_fails n e = sym w.same ∙ after_err _ (sym e)

  pub walk_on : (s' : AnalyzerState) (lists' : List ℕ) → Holding cap (rules.process_function_at im cap k w.entries) s' lists' → Now im cap a keys s' lists'
  walk_on s' lists' g = record { entries = g.entries; holds = g.holds; same = sym (after_ok _ (sym g.is)) ∙ w.same }

-- ---- the keys

pub known_keys : (known : List Row) (es : List Entry) → Knows known es → map key_of known ≡ map entry_of es
known_keys known es e = ap (map key_of) e ∙ keys es
  where
    keys : (es : List Entry) → map key_of (map (λ (x : Entry). row x.entry x.end) es) ≡ map entry_of es
    keys [] = refl
    keys (x ∷ es) = ap (λ l. x.entry ∷ l) (keys es)

-- ---- the entry point

module _ (im : Image) (cap : rules.Capacity) (es : List Entry) where
  pub point_none : None ≡ some_nonzero im.entry → rules.process_entry_point im cap es ≡ ok es
  unfolding rules.process_entry_point
  point_none e = if_true (eq-eqb _ _ (not_found im.entry e)) _ _

  pub point_walked : (k : ℕ) → Some k ≡ some_nonzero im.entry → rules.process_entry_point im cap es ≡ rules.process_function_at im cap k es
  unfolding rules.process_entry_point
  point_walked k e = let f = found im.entry k e in if_false (ne_eqb _ _ f.1) _ _ ∙ ap (λ j. rules.process_function_at im cap j es) f.0

-- ---- one after the other

module _ (im : Image) (cap : rules.Capacity) where
  pub first_fails : (n : ℕ) → rules.first_entries im cap ≡ fault n → rules.walk_given im cap ≡ fault n
  unfolding rules.walk_given
  first_fails n e = after_err _ (sym e)

  module _ (es : List Entry) (e : rules.first_entries im cap ≡ ok es) where
    pub each_fails : (n : ℕ) → rules.process_each im cap (map entry_of es) es ≡ fault n → rules.walk_given im cap ≡ fault n
    unfolding rules.walk_given
    each_fails n f = after_ok _ (sym e) ∙ after_err _ (sym f)

    pub each_walked : (fs : List Entry) → rules.process_each im cap (map entry_of es) es ≡ ok fs → rules.walk_given im cap ≡ rules.process_entry_point im cap fs
    unfolding rules.walk_given
    each_walked fs f = after_ok _ (sym e) ∙ after_ok _ (sym f)
