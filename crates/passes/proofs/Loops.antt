-- Loops of passes: what is left to do comes to the same, and fewer words are left that none has visited.
use Rattle.std.proofs.Common.{◌≡◌, ℕ, ◌<◌, false, List, [], ◌∷◌, refl, sym, ap, ◌∙◌}
use Rattle.std.proofs.Math.Option.{none}
use Rattle.rules.specs.Choice.{Answer, ok, fault, ◌>>=◌}
use Rattle.rules.specs.Loop.{Holds, holds_at}
use Rattle.rules.specs.Known.{Entry}
use Rattle.rules.specs.Step.{Walk}
use Rattle.rules.specs.Analyze.{passes_left}
use Rattle.tables.specs.declared.maps.Row.{Row}
use Rattle.walks.specs.Around.{Knows, around_of}
use Rattle.walks.specs.declared.around.Around.{Around}
use Rattle.walks.proofs.Steps.{after_ok, after_err}

-- ---- one turn of several

module _ {S : Type 0} (whole step : S → Answer S) (first w : S) (same : whole w ≡ whole first) (again : whole w ≡ (step w >>= whole)) where
  pub goes_on : (v : S) → ok v ≡ step w → whole v ≡ whole first
  goes_on v e = sym (again ∙ after_ok whole e) ∙ same

  pub fails : (n : ℕ) → fault n ≡ step w → fault n ≡ whole first
  fails n e = sym (again ∙ after_err whole e) ∙ same

-- ---- the measure

-- the known functions as entries
pub entries_of : List Row → List Entry
entries_of [] = []
entries_of (r ∷ rs) = record { entry = r.key; analyzed = false; end = r.value; slices = none } ∷ entries_of rs

pub knows : (rs : List Row) → Knows rs (entries_of rs)
unfolding entries_of
knows [] = refl
knows (r ∷ rs) = ap (λ (l : List Row). r ∷ l) (knows rs)

-- how many passes are left, whatever functions are known
abbrev pub passes : Around → Walk → ℕ
passes a w = passes_left (around_of a []) w

module _ (a : Around) (w v : Walk) where
  pub fewer : (step : (es : List Entry) → Answer Walk)
      → ((es : List Entry) → Knows a.known.now es → ok v ≡ step es)
      → ((es : List Entry) → Holds (λ y. passes_left (around_of a es) y < passes_left (around_of a es) w) (step es))
      → passes a v < passes a w
  unfolding passes_left
  fewer step made falls = let es = entries_of a.known.now in holds_at (falls es) (sym (made es (knows a.known.now)))
