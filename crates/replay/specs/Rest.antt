-- What is left of a text behind the images that were answered.
use Rattle.std.specs.Prelude.{◌≡◌, List, [], ◌∷◌, ◌++◌, ◌⊎◌, ℕ, ◌-◌, ◌≤◌, cond, ltb, length, drop, get_or, slice_get, Some}
use Rattle.mapping.specs.Answers.{text_room}
use Rattle.replay.specs.Marks.{Mark}

-- a place is a text's begin, or right behind a line `=` of it, which takes two bytes
abbrev pub Cut : List ℕ → ℕ → Type 0
Cut t r = (r ≡ 0) ⊎ ((2 ≤ r) × Mark t (r - 2))

-- where the rest of a text begins: at such a place, behind which there is no other line `=`
pub record Rest (t : List ℕ) (r : ℕ) : Type 0 where
  pub within : r ≤ length t
  pub behind : Cut t r
  pub unmarked : (i : ℕ) → Mark (drop r t) i → ⊥

-- what is kept of a text from a place on: all of it; or, where it is too much for an image, a line that is no frame (63 is `?`) and the last two
-- bytes, with which a line `=` may begin
abbrev pub kept : ℕ → List ℕ → List ℕ
kept at t = cond (ltb (length t - at) text_room) (drop at t) (63 ∷ get_or t (length t - 2) 0 ∷ get_or t (length t - 1) 0 ∷ [])

-- where the last byte is `=` (61), a newline is put behind it
pub record LineEnded (t t' : List ℕ) : Type 0 where
  pub ended : slice_get t (length t - 1) ≡ Some 61 → t' ≡ t ++ 10 ∷ []
  pub left : (slice_get t (length t - 1) ≡ Some 61 → ⊥) → t' ≡ t
