-- Tests of a word that are handed over.
use Rattle.std.specs.Prelude.{◌≡◌, ℕ, ◌<◌, Bool}

-- what a call may give at each word is what the test says
abbrev pub Computes : (ℕ → Bool → Type 0) → (ℕ → Bool) → Type 0
Computes post t = (w : ℕ) (b : Bool) → w < 0x1_0000_0000 → post w b → b ≡ t w
