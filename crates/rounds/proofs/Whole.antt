-- The run as a whole.
use Rattle.std.proofs.Common.{◌≡◌, ℕ, Bool, true, false, List, sym, ◌∙◌}
use Rattle.std.specs.Prelude.{Result, Ok, Err}
use Rattle.rules.specs.Choice.{Answer, ok, fault}
use Rattle.rules.specs.Loop as loops
use Rattle.rules.specs.Image.{Image}
use Rattle.rules.specs.Known.{Entry}
use Rattle.rules.specs.Map as rules
use Rattle.rules.specs.Map.{Capacity}
use Rattle.rules.proofs.Placed.{Table, finalize_functions_map}
use Rattle.rules.proofs.Rounds.{process_functions_processed}
use Rattle.rules.proofs.Demand3.{walk_given_table}
use Rattle.faults.specs.declared.Fault.{Fault}
use Rattle.faults.specs.Outcome.{outcome}
use Rattle.obj_info.specs.declared.info.ObjInfo.{ObjInfo}
use Rattle.obj_info.specs.Info.{image_of}
use Rattle.walks.proofs.Steps.{after_ok, after_err}
use Rattle.analyzer.specs.declared.AnalyzerState.{AnalyzerState}
use Rattle.analyzer.specs.Table.{Holds}
use Rattle.analyzer.specs.Told.{Told, Rounded, Holding}
use Rattle.rounds.proofs.Looping.{passed}

-- ---- entries that a run can have

module _ (i : ObjInfo) (cap : Capacity) (s : AnalyzerState) (lists : List ℕ) where
  abbrev im : Image
  im = image_of i

  pub given_table : (g : Holding cap (rules.walk_given im cap) s lists) → Table im false true g.entries
  given_table g = loops.holds_at (walk_given_table im cap (passed i)) g.is

  module _ (es : List Entry) (t : Table im false true es) where
    pub processed_table : (g : Holding cap (rules.process_functions im cap es) s lists) → Table im false true g.entries
    processed_table g = (loops.holds_at (process_functions_processed im (passed i) cap es t) g.is).late

    module _ (last changed : Bool) where
      pub finalized_table : (g : Rounded cap (rules.finalize_functions im cap last es) s lists changed) → Table im false true g.entries
      finalized_table g = (loops.holds_at (finalize_functions_map im (passed i) cap true last es t) g.is).late

-- ---- one after the other

module _ (im : Image) (cap : Capacity) where
  pub given_fails : (n : ℕ) → rules.walk_given im cap ≡ fault n → rules.detect im cap ≡ fault n
  unfolding rules.detect rules.detect_functions
  given_fails n e = after_err _ (sym e)

  module _ (es : List Entry) (e : rules.walk_given im cap ≡ ok es) where
    pub rounds_fail : (n : ℕ) → rules.process_functions im cap es ≡ fault n → rules.detect im cap ≡ fault n
    unfolding rules.detect rules.detect_functions
    rounds_fail n f = after_ok _ (sym e) ∙ after_err _ (sym f)

    module _ (fs : List Entry) (f : rules.process_functions im cap es ≡ ok fs) where
      pub last_rounds_fail : (n : ℕ) → rules.last_rounds im cap fs ≡ fault n → rules.detect im cap ≡ fault n
      unfolding rules.detect rules.detect_functions
      last_rounds_fail n g = after_ok _ (sym e) ∙ after_ok _ (sym f) ∙ after_err _ (sym g)

      pub all_ends : (gs : List Entry) → rules.last_rounds im cap fs ≡ ok gs → rules.detect im cap ≡ rules.all_finalized im cap gs
      unfolding rules.detect rules.detect_functions
      all_ends gs g = after_ok _ (sym e) ∙ after_ok _ (sym f) ∙ after_ok _ (sym g)

-- what was told of a state that stays as it is
pub told_of : {B : Type 0} (cap : Capacity) (x : Answer (List Entry)) (s : AnalyzerState) (lists : List ℕ) (es : List Entry) (r : Result B Fault) → outcome es r ≡ x → Holds cap s lists es → Told cap x s lists r
told_of cap x s lists es (Ok b) e h = record { entries = es; is = sym e; holds = h }
told_of cap x s lists es (Err n) e h = sym e
