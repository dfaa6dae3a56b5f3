-- The code words of a checked image, and the known functions as entries.
use Rattle.std.proofs.Common.{◌≡◌, ℕ, ◌+◌, ◌*◌, ◌<◌, ◌≤◌, refl, ap, true, List, [], ◌∷◌, leb, arith}
use borrow.Author.Tests.{leb-true, ltb-true}
use Rattle.rules.specs.Address.{address_of}
use Rattle.rules.specs.Image.{Image, code_section, code_words, contains, index}
use Rattle.rules.specs.Known.{Entry, new_entry}
use Rattle.rules.proofs.Passes.{checked_of}
use Rattle.rules.proofs.Tests.{and_left, and_right}
use Rattle.rules.proofs.WalkEnds.{Sound}
use Rattle.obj_image.specs.Lent.{given}
use Rattle.obj_info.specs.Info.{image_of, lent_of}
use Rattle.obj_info.specs.declared.info.ObjInfo.{ObjInfo}
use Rattle.obj_info.proofs.Lookups.{size_small}
use Rattle.tables.specs.declared.maps.Row.{Row}
use Rattle.walks.specs.Around.{Knows}

pub sound_of : (o : ObjInfo) → Sound (image_of o)
sound_of o = (checked_of (given (lent_of o)) o.checked).sound

pub few_words : (o : ObjInfo) → code_words (image_of o) ≤ 65536
unfolding code_words
few_words o = omega (arith, size_small (lent_of o) o.checked o.code o.is_code, o.is_code.size)

-- the word at an address
module _ (im : Image) (sound : Sound im) (k : ℕ) (inside : contains (code_section im) (address_of k) ≡ true) where
  pub low : (code_section im).base ≤ address_of k
  low = leb-true _ _ (and_left _ _ inside)

  pub high : address_of k < (code_section im).base + (code_section im).size
  high = ltb-true _ _ (and_right (leb (code_section im).base (address_of k)) _ inside)

  pub index_low : index im k < code_words im
  unfolding index code_words
  index_low = omega (arith, low, high, sound.aligned)

  -- so many words further
  pub further : (j : ℕ) → index im k + j < code_words im → address_of k + 4 * j < (code_section im).base + (code_section im).size
  unfolding index code_words
  further j h = omega (arith, low, high, sound.aligned)

  pub further_low : (j : ℕ) → index im k + j < code_words im → address_of k + 4 * j < 0xF000_0000
  further_low j h = omega (arith, further j h, sound.fits)

-- ---- the known functions

-- the rows of a map as entries
abbrev pub entries_in : List Row → List Entry
entries_in [] = []
entries_in (r ∷ rs) = record (new_entry r.key) { end = r.value } ∷ entries_in rs

pub known_in : (rs : List Row) → Knows rs (entries_in rs)
known_in [] = refl
known_in (r ∷ rs) = ap (λ (l : List Row). r ∷ l) (known_in rs)
