-- Where an entry stands, and where the numbers of its lists lie.
use Rattle.std.specs.Prelude.{◌≡◌, ◌+◌, ◌-◌, ◌<◌, ◌≤◌, ℕ, true, List, [], ◌∷◌, ◌++◌, length, take, drop, Result, Ok, Err, Option as Maybe, Some, None}
use Rattle.std.specs.List.{between}
use Rattle.std.proofs.Math.Option.{Option, none, some}
use denote.Ref.{Bor}
use Rattle.rules.specs.Choice.{Answer, ok, fault}
use Rattle.rules.specs.Ordered.{rank, has}
use Rattle.rules.specs.Slices.{Slices}
use Rattle.rules.specs.Known.{Entry, entry_of}
use Rattle.rules.specs.Map.{Capacity}
use Rattle.rules.specs.OneFunction.{numbers}
use Rattle.faults.specs.declared.Fault.{Fault}
use Rattle.faults.specs.Number.{number_of}
use Rattle.numbers.specs.declared.Header.{Header}
use Rattle.numbers.specs.Stored.{header_of, header_len, Right}
use Rattle.analyzer.specs.declared.FunctionInfo.{FunctionInfo}
use Rattle.analyzer.specs.declared.AnalyzerState.{AnalyzerState}
use Rattle.analyzer.specs.Table.{Holds}

-- the entries of an answer are held, and the one at k stands at a place
pub record Standing (cap : Capacity) (x : Answer (List Entry)) (k : ℕ) (a : AnalyzerState) (lists : List ℕ) (at : ℕ) : Type 0 where
  pub entries : List Entry
  pub is : x ≡ ok entries
  pub holds : Holds cap a lists entries
  pub place : at ≡ rank entry_of k entries
  pub there : has entry_of k entries ≡ true

-- they are, or its fault is told
abbrev pub Placed : Capacity → Answer (List Entry) → ℕ → AnalyzerState → List ℕ → Result ℕ Fault → Type 0
Placed cap x k a lists (Ok at) = Standing cap x k a lists at
Placed cap x k a lists (Err e) = x ≡ fault (number_of e)

-- how many numbers the lists of an entry take, and those of some
abbrev pub header_long : Maybe Header → ℕ
header_long None = 0
header_long (Some h) = header_len h

abbrev pub info_long : FunctionInfo → ℕ
info_long i = header_long i.slices

abbrev pub infos_long : List FunctionInfo → ℕ
infos_long [] = 0
infos_long (i ∷ is) = info_long i + infos_long is

-- lists, if there are some, are lent as numbers
pub record IsLent (s : Slices) (h : Header) (ns : List ℕ) : Type 0 where
  pub header : h ≡ header_of s
  pub numbers : ns ≡ numbers s
  pub right : Right s

abbrev pub Lent : Option Slices → Maybe (Header × Bor (List ℕ)) → Type 0
Lent none None = Unit {0}
Lent none (Some p) = ⊥
Lent (some s) None = ⊥
Lent (some s) (Some p) = IsLent s p.0 p.1.now

-- numbers in the place of those from one place up to another, and those behind moved; or there is no room, and nothing is changed
pub record IsReplaced (old new : List ℕ) (from until total : ℕ) (ns : List ℕ) : Type 0 where
  pub whole : total ≤ length old
  pub room : from + length ns + (total - until) ≤ length old
  pub is : new ≡ take from old ++ (ns ++ (between until total old ++ drop (from + length ns + (total - until)) old))

pub record IsFull (old new : List ℕ) (from until total : ℕ) (ns : List ℕ) (e : Fault) : Type 0 where
  pub limit : number_of e ≡ 4
  pub full : total ≤ length old → length old < from + length ns + (total - until)
  pub same : new ≡ old

abbrev pub Replaced : {B : Type 0} → List ℕ → List ℕ → ℕ → ℕ → ℕ → List ℕ → Result B Fault → Type 0
Replaced old new from until total ns (Ok b) = IsReplaced old new from until total ns
Replaced old new from until total ns (Err e) = IsFull old new from until total ns e
