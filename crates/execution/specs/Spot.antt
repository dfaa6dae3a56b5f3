-- Where a stretch is looked for.
use Rattle.std.specs.Prelude.{ℕ, ◌-◌, ◌%◌, Bool, ◌&&◌, ◌||◌, eqb, leb, Option, Some, None}
use Rattle.rules.specs.Choice.{if}
use Rattle.rules.specs.Address.{address_of}
use Rattle.rules.specs.Image.{Image, code_section, code_words, contains, index}
use Rattle.execution.specs.declared.plain.Spot.{Spot}

-- at a block's first word and at each eighth word
unfoldable pub is_looked_at : ℕ → ℕ → Bool
is_looked_at k b = eqb k b || eqb (k % 32) 0

-- how many code words lie behind the one at an address
unfoldable pub behind : Image → ℕ → ℕ
behind im k = code_words im - 1 - index im k

-- a code word behind which there are two or more
unfoldable pub is_spot : Image → ℕ → ℕ → Bool
is_spot im k b = is_looked_at k b && (contains (code_section im) (address_of k) && leb 2 (behind im k))

-- with its number
abbrev pub spot_in : Image → ℕ → ℕ → Option Spot
spot_in im k b = if (is_spot im k b) (Some (record { index = index im k; behind = behind im k })) None
