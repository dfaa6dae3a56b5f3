-- Short forms to write an image down.
use Prim.Native.Nat.{ℕ, ◌/◌, ◌%◌}
use mathlib.Core.List.{List, [], ◌∷◌}
use Rattle.rules.specs.Given.{SectionRow, BranchRow, OutcomeRow, SymbolRow}
use Rattle.rules.specs.Image.{Range}

-- the bytes of words
abbrev pub bytes_of : List ℕ → List ℕ
bytes_of [] = []
bytes_of (w ∷ l) = w / 0x100_0000 ∷ w / 0x1_0000 % 256 ∷ w / 256 % 256 ∷ w % 256 ∷ bytes_of l

-- kind, base, size, bytes handed in
abbrev pub section : ℕ → ℕ → ℕ → ℕ → SectionRow
section k b s n = record { kind = k; base = b; size = s; given = n }

-- kind and mark
abbrev pub does : ℕ → ℕ → OutcomeRow
does k m = record { kind = k; mark = m; address = 0; size = 0; branches = [] }

-- mark, target
abbrev pub jumps : ℕ → ℕ → OutcomeRow
jumps m a = record { kind = 4; mark = m; address = a; size = 0; branches = [] }

-- mark, address, size
abbrev pub uses_table : ℕ → ℕ → ℕ → OutcomeRow
uses_table m a s = record { kind = 5; mark = m; address = a; size = s; branches = [] }

-- mark, branches
abbrev pub lists : ℕ → List BranchRow → OutcomeRow
lists m l = record { kind = 6; mark = m; address = 0; size = 0; branches = l }

-- link, where to, address
abbrev pub branch : ℕ → ℕ → ℕ → BranchRow
branch l t a = record { link = l; to = t; address = a }

-- address, size, whether it is known
abbrev pub symbol : ℕ → ℕ → ℕ → SymbolRow
symbol a s k = record { address = a; size = s; known = k }

abbrev pub range : ℕ → ℕ → Range
range a b = record { first = a; past = b }
