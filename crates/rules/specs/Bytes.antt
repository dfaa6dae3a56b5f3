-- Words as they lie in a section's bytes: big-endian, four bytes each.
use Rattle.std.specs.Prelude.{ℕ, ◌+◌, ◌*◌, ◌-◌, List, [], ◌∷◌, leb, drop}
use Rattle.rules.specs.Choice.{if}

-- "A word is 32 bits, big-endian"
abbrev pub word_of : ℕ → ℕ → ℕ → ℕ → ℕ
word_of a b c d = ((a * 256 + b) * 256 + c) * 256 + d

-- the words of a list of bytes; fewer than four bytes at the end are no word
abbrev pub words_in : List ℕ → List ℕ
words_in [] = []
words_in (a ∷ []) = []
words_in (a ∷ b ∷ []) = []
words_in (a ∷ b ∷ c ∷ []) = []
words_in (a ∷ b ∷ c ∷ d ∷ l) = word_of a b c d ∷ words_in l

-- the words from an address on, of a section with this base and these bytes; none where the address lies outside it
unfoldable pub words_at : ℕ → List ℕ → ℕ → List ℕ
words_at base bytes a = if (leb base a) (words_in (drop (a - base) bytes)) []
