-- What is read of a table's words, one after the other.
use Rattle.std.specs.Prelude.{ℕ, ◌-◌, ◌%◌, Bool, true, ◌&&◌, not, List, [], ◌∷◌, Option, Some, None, ltb, leb, eqb}
use Rattle.std.specs.Int.{from_be_bytes, w32}
use Rattle.rules.specs.Choice.{if, Answer, ok, fault, limited, ◌>>=◌}
use Rattle.rules.specs.Ordered.{self, put}
use Rattle.rules.specs.Image.{Image, locate}
use Rattle.jump_tables.specs.declared.reading.Reading.{Reading}

-- a word of four bytes
abbrev pub number_in : List ℕ → ℕ
number_in c = from_be_bytes w32 c

-- no word is taken yet
abbrev pub begun : Reading
begun = record { entries = []; room = 256 }

-- the word v taken as an entry to t: 10 before 4
abbrev pub taken : ℕ → ℕ → Reading → Answer Reading
taken v t s =
    let more : Answer Reading = limited 256 (put self t s.entries) >>= λ l. ok (record { entries = l; room = s.room - 1 }) in
    if (eqb (v % 4) 0) (if (eqb s.room 0) (fault 4) more) (fault 10)

module _ (im : Image) where
  -- a word of a table with a size: zero words are passed over
  abbrev pub sized_word : ℕ → Reading → Answer Reading
  sized_word v s = if (eqb v 0) (ok s) (if (eqb (locate im v) 0) (fault 9) (taken v (locate im v) s))

  -- one after the other
  abbrev pub sized_words : List ℕ → Reading → Answer Reading
  sized_words [] s = ok s
  sized_words (v ∷ vs) s = sized_word v s >>= sized_words vs

-- below an end, where there is one
abbrev pub is_before : Option ℕ → ℕ → Bool
is_before None t = true
is_before (Some past) t = ltb t past

-- an address inside the function, as far as its end is known
abbrev pub is_inside : ℕ → Option ℕ → ℕ → Bool
is_inside first past t = leb first t && is_before past t

module _ (im : Image) (first : ℕ) (past : Option ℕ) where
  -- the address that a word is, where it is one inside the function
  abbrev pub target_inside : ℕ → Option ℕ
  target_inside v = if (not (eqb (locate im v) 0) && is_inside first past (locate im v)) (Some (locate im v)) None

  -- a word of a table without a size ends it, if it is no address inside the function
  abbrev pub unsized_words : List ℕ → Reading → Answer Reading
  unsized_words [] s = ok s
  unsized_words (v ∷ vs) s =
      let more : Answer Reading = taken v (locate im v) s >>= unsized_words vs in
      if (not (eqb (locate im v) 0) && is_inside first past (locate im v)) more (ok s)
