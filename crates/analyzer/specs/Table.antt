-- The entries of the map, as a state and a lent list hold them.
use Rattle.std.specs.Prelude.{◌≡◌, ◌≤◌, ℕ, List, [], ◌∷◌, ◌++◌, Bool, map, length, take, Option as Maybe, Some, None}
use Rattle.std.proofs.Math.Option.{Option, none, some}
use Rattle.rules.specs.Ordered.{Rising, upper}
use Rattle.rules.specs.Slices.{Slices}
use Rattle.rules.specs.Known.{Entry, entry_of, new_entry}
use Rattle.rules.specs.Map.{Capacity}
use Rattle.rules.specs.OneFunction.{numbers}
use Rattle.walks.specs.Around.{Knows}
use Rattle.numbers.specs.Stored.{header_of, Right}
use Rattle.numbers.specs.declared.Header.{Header}
use Rattle.analyzer.specs.declared.FunctionInfo.{FunctionInfo}
use Rattle.analyzer.specs.declared.AnalyzerState.{AnalyzerState}

-- what is told of lists beside their numbers, if there are some
abbrev pub header_in : Option Slices → Maybe Header
header_in none = None
header_in (some s) = Some (header_of s)

-- what is told of an entry
abbrev pub info : Maybe Header → Bool → FunctionInfo
info s b = record { slices = s; analyzed = b; fill_1 = 0; fill_2 = 0; fill_4 = 0 }

abbrev pub info_of : Entry → FunctionInfo
info_of x = info (header_in x.slices) x.analyzed

-- the numbers of an entry's lists, if it has any
abbrev pub numbers_in : Option Slices → List ℕ
numbers_in none = []
numbers_in (some s) = numbers s

abbrev pub entry_numbers : Entry → List ℕ
entry_numbers x = numbers_in x.slices

-- those of each entry, one behind the other
abbrev pub flat : List Entry → List ℕ
flat [] = []
flat (x ∷ es) = entry_numbers x ++ flat es

-- lists, if there are some, are right
abbrev pub RightIn : Option Slices → Type 0
RightIn none = Unit {0}
RightIn (some s) = Right s

-- those of each entry
abbrev pub AllRight : List Entry → Type 0
AllRight [] = Unit {0}
AllRight (x ∷ es) = RightIn x.slices × AllRight es

-- the state and the numbers are these entries, where there is room for so many
pub record Holds (cap : Capacity) (a : AnalyzerState) (lists : List ℕ) (es : List Entry) : Type 0 where
  pub room : cap.entries ≡ a.room
  pub long : cap.numbers ≡ length lists
  pub knows : Knows a.known es
  pub infos : a.infos.items ≡ map info_of es
  pub numbers : take (length (flat es)) lists ≡ flat es
  pub right : AllRight es
  pub rising : Rising entry_of es
  pub few : length es ≤ 1024

-- the lists of the entry at k
abbrev pub slices_at : ℕ → List Entry → Option Slices
slices_at k es = (upper entry_of k (new_entry k) es).slices
