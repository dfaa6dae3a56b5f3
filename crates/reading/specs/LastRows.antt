-- What a frame changes in the last row of a list: the bytes given of the last section, and what the last code word does. A list stands
-- in the first numbers of a lent one.
use Rattle.std.specs.Prelude.{◌≡◌, Bool, ◌&&◌, List, [], ◌∷◌, ◌++◌, ℕ, ◌+◌, ◌*◌, ◌-◌, ◌/◌, ◌%◌, ◌≤◌, leb, eqb, length, take, get_or, set}
use Rattle.std.specs.Prelude.{Option, None, Some}
use Rattle.rules.specs.Choice.{if}
use Rattle.reading.specs.declared.rows.Count.{Count}

-- the number k places from the end, 1 the last
unfoldable pub back : List ℕ → ℕ → ℕ
back l k = get_or l (length l - k) 0

unfoldable pub set_back : List ℕ → ℕ → ℕ → List ℕ
set_back l k x = set l (length l - k) x

-- the first n numbers of a lent list are these now
pub record Now (n : ℕ) (xs ys l : List ℕ) : Type 0 where
  pub size : length ys ≡ length xs
  pub same : take n ys ≡ l

-- ---- the last section: kind, base, size, bytes given

-- 0 for no section, 1 for one of code, 2 for another
unfoldable pub last_kind : List ℕ → ℕ
last_kind s = if (leb 4 (length s)) (if (eqb (back s 4) 1) 1 2) 0

-- a word's bytes, big-endian
abbrev pub word_bytes : ℕ → List ℕ
word_bytes w = w / 0x100_0000 ∷ w / 0x1_0000 % 256 ∷ w / 256 % 256 ∷ w % 256 ∷ []

-- sections with a word more of the last, and the bytes; "base + size at most 0xF0000000", so no section has more
unfoldable pub add_word : ℕ → ℕ → List ℕ → List ℕ → Option (List ℕ × List ℕ)
add_word room w s b =
    if (leb (back s 1) 0xEFFF_FFFC && leb (length b + 4) room)
    (Some (set_back s 1 (back s 1 + 4), b ++ word_bytes w))
    None

-- four bytes behind the first n
pub record PutWord (n w : ℕ) (xs ys : List ℕ) : Type 0 where
  pub size : length ys ≡ length xs
  pub same : take (n + 4) ys ≡ take n xs ++ word_bytes w

-- the sections and the bytes, if there was room
unfoldable pub both : Count → List ℕ → List ℕ → Option (List ℕ × List ℕ)
both c s b = if c.ok (Some (s, take c.count b)) None

pub record WordAdded (n m w : ℕ) (s s' b b' : List ℕ) (r : Count) : Type 0 where
  pub sections : length s' ≡ length s
  pub bytes : length b' ≡ length b
  pub within : r.count ≤ length b'
  pub same : both r (take n s') b' ≡ add_word (length b) w (take n s) (take m b)

-- ---- the last code word: kind, mark, and four numbers by kind

-- whether there is one, of this kind
unfoldable pub last_is : ℕ → List ℕ → Bool
last_is k o = leb 6 (length o) && eqb (back o 6) k

-- where it jumps to
abbrev pub set_target : ℕ → List ℕ → Option (List ℕ)
set_target a o = if (last_is 4 o) (Some (set_back o 4 a)) None

-- its jump table
abbrev pub set_table : ℕ → ℕ → List ℕ → Option (List ℕ)
set_table a s o = if (last_is 5 o) (Some (set_back (set_back o 4 a) 3 s)) None

-- one branch more; with a third the row breaks its rule: a way that is none
abbrev pub with_branch : ℕ → ℕ → List ℕ → List ℕ
with_branch way a o =
    if (eqb (back o 4) 0) (set_back (set_back o 4 way) 3 a) (if (eqb (back o 2) 0) (set_back (set_back o 2 way) 1 a) (set_back o 2 4))

-- a way as the row has it: 1 to an address, 2 to a table, 3 elsewhere, and 4 more with link
abbrev pub way_of : ℕ → ℕ → ℕ
way_of link to = link * 4 + to + 1

abbrev pub add_branch : ℕ → ℕ → ℕ → List ℕ → Option (List ℕ)
add_branch link to a o = if (last_is 6 o) (Some (with_branch (way_of link to) a o)) None

-- the list, if the frame belongs to it
unfoldable pub told : Bool → List ℕ → Option (List ℕ)
told t o = if t (Some o) None

pub record Told (n : ℕ) (xs ys : List ℕ) (r : Bool) (o : Option (List ℕ)) : Type 0 where
  pub size : length ys ≡ length xs
  pub same : told r (take n ys) ≡ o
