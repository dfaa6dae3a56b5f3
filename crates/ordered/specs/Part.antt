-- What a change of the first n elements of an array leaves: the list of those elements, and the rest.
use Rattle.std.specs.Prelude.{◌≡◌, List, ◌∷◌, false, ℕ, suc, ◌≤◌, ltb, length, take, drop, get_or, set}
use Rattle.rules.specs.Choice.{if}
use Rattle.rules.specs.Ordered.{self, insert_at, remove_at, rank, has, put, without, lower}
use Rattle.ordered.specs.declared.Found.{Found}
use Rattle.ordered.specs.declared.Nearest.{Nearest}
use Rattle.ordered.specs.declared.Insertion.{Insertion}

-- `after` is the m elements of `front`, then `back`; it is as long as `before`
pub record Changed (before after : List ℕ) (m : ℕ) (front back : List ℕ) : Type 0 where
  pub count : length front ≡ m
  pub live : take m after ≡ front
  pub rest : drop m after ≡ back
  pub size : length after ≡ length before

-- v is put in at i among the first n elements; what stood at n is lost
abbrev pub Inserted : List ℕ → List ℕ → ℕ → ℕ → ℕ → Type 0
Inserted before after n i v = Changed before after (suc n) (insert_at i v (take n before)) (drop (suc n) before)

-- v stands at i among the first n elements
abbrev pub Replaced : List ℕ → List ℕ → ℕ → ℕ → ℕ → Type 0
Replaced before after n i v = Changed before after n (set (take n before) i v) (drop n before)

-- what stood at i among the first n elements is gone, and m of them are left; 0 stands in the freed place
abbrev pub Removed : List ℕ → List ℕ → ℕ → ℕ → ℕ → Type 0
Removed before after n i m = Changed before after m (remove_at i (take n before)) (0 ∷ drop n before)

-- a column of a table: an array of cap elements of which the first n are in use, and the rest are 0
pub record Column (cap n : ℕ) (xs : List ℕ) : Type 0 where
  pub fits : n ≤ cap
  pub size : length xs ≡ cap
  pub clear : (k : ℕ) → n ≤ k → get_or xs k 0 ≡ 0

-- the place of key in a list that rises, and whether it is there
pub record IsFound (l : List ℕ) (key : ℕ) (r : Found) : Type 0 where
  pub place : r.at ≡ rank self key l
  pub hit : r.hit ≡ has self key l

-- whether an element is below key, and the index of the last that is: it stands just before the place of key
pub record IsNearest (l : List ℕ) (key : ℕ) (r : Nearest) : Type 0 where
  pub place : rank self key l ≡ if r.some (suc r.at) 0
  pub value : (d : ℕ) → lower self key d l ≡ if r.some (get_or l r.at 0) d
  pub none : r.some ≡ false → r.at ≡ 0

-- key is put into the set of the first n elements, or nothing is changed where that would pass the room
pub record IsInserted (before after : List ℕ) (n room key : ℕ) (r : Insertion) : Type 0 where
  pub full : r.full ≡ ltb room (length (put self key (take n before)))
  pub set : Changed before after r.count (if r.full (take n before) (put self key (take n before))) (drop r.count before)

-- key is taken out of the set of the first n elements, and m are left; 0 stands in the freed place
abbrev pub IsRemoved : List ℕ → List ℕ → ℕ → ℕ → ℕ → Type 0
IsRemoved before after n key m =
    Changed before after m (without self key (take n before)) (if (has self key (take n before)) (0 ∷ drop n before) (drop n before))
