-- A quoted text as the list of its characters' codes, to write lines of bytes readably.
use Rattle.std.specs.Prelude.{ℕ, List}
use Prim.Native.String.{String, [], ◌∷◌}
use Prim.Native.Char.{code}
use mathlib.Core.List as Lists

-- each character is one byte, for texts of ASCII
abbrev pub bytes : String → List ℕ
bytes [] = Lists.[]
bytes (c ∷ s) = Lists.◌∷◌ (code c) (bytes s)
