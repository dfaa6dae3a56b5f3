-- What a change of the entries comes to.
use Rattle.std.specs.Prelude.{◌≡◌, ℕ, Bool, List, Result, Ok, Err}
use Rattle.rules.specs.Choice.{Answer, ok, fault, ◌>>=◌}
use Rattle.rules.specs.Ordered.{put, upper}
use Rattle.rules.specs.Known.{Entry, entry_of, new_entry}
use Rattle.rules.specs.Map.{Capacity, Round, round, add_entry}
use Rattle.faults.specs.declared.Fault.{Fault}
use Rattle.faults.specs.Number.{number_of}
use Rattle.analyzer.specs.declared.AnalyzerState.{AnalyzerState}
use Rattle.analyzer.specs.Table.{Holds}

-- the entries of an answer are held
pub record Holding (cap : Capacity) (x : Answer (List Entry)) (a : AnalyzerState) (lists : List ℕ) : Type 0 where
  pub entries : List Entry
  pub is : x ≡ ok entries
  pub holds : Holds cap a lists entries

-- they are, or its fault is told
abbrev pub Told : {B : Type 0} → Capacity → Answer (List Entry) → AnalyzerState → List ℕ → Result B Fault → Type 0
Told cap x a lists (Ok b) = Holding cap x a lists
Told cap x a lists (Err e) = x ≡ fault (number_of e)

-- so of a round, and whether it changed any is told
pub record Rounded (cap : Capacity) (x : Answer Round) (a : AnalyzerState) (lists : List ℕ) (changed : Bool) : Type 0 where
  pub entries : List Entry
  pub is : x ≡ ok (round changed entries)
  pub holds : Holds cap a lists entries

abbrev pub Turned : Capacity → Answer Round → AnalyzerState → List ℕ → Result Bool Fault → Type 0
Turned cap x a lists (Ok changed) = Rounded cap x a lists changed
Turned cap x a lists (Err e) = x ≡ fault (number_of e)

-- an entry with another end
abbrev pub with_end : ℕ → Entry → Entry
with_end end x = record { entry = x.entry; analyzed = x.analyzed; end = end; slices = x.slices }

-- the entry at k added if there is none, with the end given
unfoldable pub end_set : Capacity → ℕ → ℕ → List Entry → Answer (List Entry)
end_set cap k end es = add_entry cap k es >>= λ fs. ok (put entry_of (with_end end (upper entry_of k (new_entry k) fs)) fs)
