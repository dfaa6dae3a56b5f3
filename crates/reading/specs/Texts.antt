-- A text of frames, one to a line, read into the lists that stand for an image.
use Rattle.std.specs.Prelude.{◌≡◌, List, [], ◌∷◌, ℕ, ◌+◌, ◌-◌, ◌≤◌, eqb, length, take, drop}
use Rattle.std.specs.Prelude.{Option, None, Some}
use Rattle.rules.specs.Choice.{if}
use Rattle.obj_image.specs.Lent.{Lent, lent}
use Rattle.reading.specs.Frames.{read_frame}
use Rattle.reading.specs.PutFrame.{Room, put_line}
use Rattle.reading.specs.View.{view, room, Fit}
use Rattle.reading.specs.declared.state.Reading.{Reading}

-- a byte before the first line, or a line of its own where there is none
abbrev pub add_byte : ℕ → List (List ℕ) → List (List ℕ)
add_byte b [] = (b ∷ []) ∷ []
add_byte b (l ∷ ls) = (b ∷ l) ∷ ls

-- a line ends at a newline, the byte 10; what stands behind the last newline is a line too if it is not empty
abbrev pub lines_of : List ℕ → List (List ℕ)
lines_of [] = []
lines_of (b ∷ t) = let rest : List (List ℕ) = lines_of t in if (eqb b 10) ([] ∷ rest) (add_byte b rest)

-- one line more, if all before were frames
abbrev pub put_next : Room → List ℕ → Option Lent → Option Lent
put_next m x None = None
put_next m x (Some l) = put_line m (read_frame x) l

-- lines one after the other
abbrev pub put_lines : Room → List (List ℕ) → Option Lent → Option Lent
put_lines m [] l = l
put_lines m (x ∷ xs) l = put_lines m xs (put_next m x l)

-- the lists that the lines of a text come to, if each is a frame where it stands
unfoldable pub read_text : Room → List ℕ → Option Lent
read_text m t = put_lines m (lines_of t) (Some (lent [] [] [] [] [] [] []))

-- the line that begins at a place of the text ends at r, and the next begins behind that
pub record Ends (t : List ℕ) (from r : ℕ) : Type 0 where
  pub low : from ≤ r
  pub high : r ≤ length t
  pub first : lines_of (drop from t) ≡ take (r - from) (drop from t) ∷ lines_of (drop (r + 1) t)

-- the lists keep their lengths, and the counts are within them
pub record Kept (r : Reading) (s s' b b' o o' f f' j j' k k' e e' : List ℕ) : Type 0 where
  pub size_s : length s' ≡ length s
  pub size_b : length b' ≡ length b
  pub size_o : length o' ≡ length o
  pub size_f : length f' ≡ length f
  pub size_j : length j' ≡ length j
  pub size_k : length k' ≡ length k
  pub size_e : length e' ≡ length e
  pub fit : Fit r s' b' o' f' j' k' e'

-- a line was put into the lists
pub record LinePut (x : List ℕ) (q r : Reading) (s s' b b' o o' f f' j j' k k' e e' : List ℕ) : Type 0 where
  pub kept : Kept r s s' b b' o o' f f' j j' k k' e e'
  pub same : view r s' b' o' f' j' k' e' ≡ put_next (room s b o f j k e) x (view q s b o f j k e)

-- a text was read into the lists
pub record TextRead (t : List ℕ) (r : Reading) (s s' b b' o o' f f' j j' k k' e e' : List ℕ) : Type 0 where
  pub kept : Kept r s s' b b' o o' f f' j j' k k' e e'
  pub same : view r s' b' o' f' j' k' e' ≡ read_text (room s b o f j k e) t
