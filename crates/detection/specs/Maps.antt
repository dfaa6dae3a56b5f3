-- What a run answers, and what it leaves in the lent result lists.
use Rattle.std.specs.Prelude.{◌≡◌, List, ℕ, ◌/◌, leb, length, replicate, Result, Ok, Err}
use Rattle.rules.specs.Choice.{if, Answer, ok, fault}
use Rattle.rules.specs.Image.{Image}
use Rattle.rules.specs.Known.{Entry}
use Rattle.rules.specs.Map.{Capacity}
use Rattle.rules.specs.Accounted.{Accounted}
use Rattle.faults.specs.declared.Fault.{Fault}
use Rattle.faults.specs.Number.{number_of}
use Rattle.analyzer.specs.Table.{flat, AllRight}
use Rattle.result_lists.specs.Rows.{rows_of, padded}
use Rattle.result_lists.specs.Back.{map_of}
use Rattle.detection.specs.declared.MapSize.{MapSize}

-- what the lent result lists hold: ten numbers for each entry in the first, and all numbers of the functions' lists in the second
abbrev pub room_of : List ℕ → List ℕ → Capacity
room_of rows lists = record { entries = length rows / 10; numbers = length lists }

-- the number, 0 for a map, and how many entries and numbers there are
pub record Reply : Type 0 where
  pub number : ℕ
  pub entries : ℕ
  pub numbers : ℕ

abbrev pub reply : ℕ → ℕ → ℕ → Reply
reply n e m = record { number = n; entries = e; numbers = m }

abbrev pub reply_of : Result MapSize Fault → Reply
reply_of (Ok size) = reply 0 size.entries size.numbers
reply_of (Err e) = reply (number_of e) 0 0

-- a map: its counts, its rows and numbers, and zeros past them
abbrev pub Mapped : List Entry → List ℕ → List ℕ → List ℕ → List ℕ → Reply → Type 0
Mapped es rows₀ lists₀ rows lists r =
    (r ≡ reply 0 (length es) (length (flat es))) × (rows ≡ padded (rows_of es) (length rows₀)) × (lists ≡ padded (flat es) (length lists₀))

-- each entry's lists are within their limits and ascend
abbrev pub Right : Answer (List Entry) → Type 0
Right (ok es) = AllRight es
Right (fault n) = Unit {0}

-- the whole: 1 to 3 leave the lists as they were, 4 to 17 leave zeros
abbrev pub Answers : Answer (List Entry) → List ℕ → List ℕ → List ℕ → List ℕ → Reply → Type 0
Answers (ok es) rows₀ lists₀ rows lists r = Mapped es rows₀ lists₀ rows lists r
Answers (fault n) rows₀ lists₀ rows lists r =
    (r ≡ reply n 0 0) × (rows ≡ if (leb n 3) rows₀ (replicate (length rows₀) 0)) × (lists ≡ if (leb n 3) lists₀ (replicate (length lists₀) 0))

pub record Told (a : Answer (List Entry)) (rows₀ lists₀ rows lists : List ℕ) (r : Reply) : Type 0 where
  pub answers : Answers a rows₀ lists₀ rows lists r
  pub right : Right a

-- demand 3, of the image and the lent lists
pub record Counted (im : Image) (rows lists : List ℕ) (r : Reply) : Type 0 where
  pub accounted : r.number ≡ 0 → Accounted im (map_of r.entries rows lists)

-- ---- inside

-- of a walk: a map, or a fault and zeros
pub record LeftMap (a : Answer (List Entry)) (rows₀ lists₀ rows lists : List ℕ) (r : Reply) : Type 0 where
  pub entries : List Entry
  pub is : a ≡ ok entries
  pub mapped : Mapped entries rows₀ lists₀ rows lists r
  pub right : AllRight entries

abbrev pub Left : Answer (List Entry) → List ℕ → List ℕ → List ℕ → List ℕ → Result MapSize Fault → Type 0
Left a rows₀ lists₀ rows lists (Ok size) = LeftMap a rows₀ lists₀ rows lists (reply_of (Ok size))
Left a rows₀ lists₀ rows lists (Err e) = (a ≡ fault (number_of e)) × (rows ≡ replicate (length rows₀) 0) × (lists ≡ replicate (length lists₀) 0)
