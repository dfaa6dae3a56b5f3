-- Which code words, by their numbers, a walk goes over, and how many words lie before what could end that.
use Rattle.std.specs.Prelude.{ℕ, zero, suc, ◌+◌, ◌-◌, ◌*◌, ◌/◌, Bool, ◌&&◌, not, eqb, min, get_or, map}
use Rattle.rules.specs.Choice.{if}
use Rattle.rules.specs.Ordered.{self, upper}
use Rattle.rules.specs.Blocks.{start_of}
use Rattle.rules.specs.Image.{Image, code_section, no_word}
use Rattle.rules.specs.Known.{entry_of, covering}
use Rattle.rules.specs.Plain.{plain}
use Rattle.rules.specs.Slices.{Slices}
use Rattle.rules.specs.Step.{Around}
use Rattle.obj.specs.Outcomes.{goes_on}

module _ (im : Image) where
  -- the word i goes on, and is plain
  unfoldable pub quick : ℕ → Bool
  quick i = goes_on im i && plain (get_or (code_section im).words i no_word)

  -- the word i goes on, and the next one, too
  unfoldable pub both_go_on : ℕ → Bool
  both_go_on i = goes_on im i && goes_on im (i + 1)

  module _ (visited : ℕ → Bool) where
    -- and the next was not visited
    unfoldable pub goes_over : ℕ → Bool
    goes_over i = not (visited (i + 1)) && quick i

    -- the word itself was not visited either, and the next one goes on, too
    unfoldable pub begins : ℕ → Bool
    begins i = both_go_on i && (not (visited i) && goes_over i)

    -- how many words from i on, at most so many, are gone over
    abbrev pub stretch : ℕ → ℕ → ℕ
    stretch i zero = 0
    stretch i (suc n) = if (goes_over i) (suc (stretch (i + 1) n)) 0

-- a function that covers a word is neither none nor the walked one
unfoldable pub other : ℕ → ℕ → Bool
other f start = not (eqb f 0) && not (eqb f start)

module _ (e : Around) (s : Slices) where
  -- the first address from k on, at most `end`, where a known function begins, a reference or a possible block is, or behind which a block starts
  unfoldable pub clear_until : ℕ → ℕ → ℕ
  clear_until k end =
      min (min (upper self (k + 4) (end + 4) (map start_of s.blocks) - 4) (upper self (k + 1) end (map entry_of e.entries)))
      (min (upper self k end s.function_references) (upper self k end s.possible_blocks))

  -- how many words from k on, at most so many, lie before that; none where k is another known function's
  unfoldable pub how_many : ℕ → ℕ → ℕ
  how_many k most = if (other (covering k e.entries) e.start) 0 (min ((clear_until k (k + 4 * most) - k) / 4) most)
