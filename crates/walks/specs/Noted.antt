-- Prologue, epilogue and returns at a word.
use Rattle.std.specs.Prelude.{ℕ, Bool, ◌&&◌, not, eqb}
use Rattle.rules.specs.Choice.{Answer, ok, ◌>>=◌}
use Rattle.rules.specs.Words.{primary}
use Rattle.rules.specs.Image.{Image}
use Rattle.rules.specs.Slices.{Slices}
use Rattle.rules.specs.Step as rules

-- a word by whose primary opcode it begins no sequence, loads no r1 and is no return
unfoldable pub plain : ℕ → Bool
plain w = not (eqb (primary w) 19) && not (eqb (primary w) 31) && not (eqb (primary w) 32) && not (eqb (primary w) 37)

-- what is noted of a word before it does what it does
unfoldable pub noted : Image → ℕ → Slices → Answer Slices
noted im k s = rules.check_sequences im k s >>= λ t. ok (rules.note_word im k t)
