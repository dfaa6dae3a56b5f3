-- Bytes printed behind a text in a lent slice.
use Rattle.std.specs.Prelude.{◌≡◌, List, ℕ, ◌+◌, ◌≤◌, ◌++◌, length, take, drop}
use Rattle.printing.specs.declared.line.Text.{Text}

-- out with l in the place of what stands from at on
abbrev pub laid : List ℕ → ℕ → List ℕ → List ℕ
laid out at l = take at out ++ l ++ drop (at + length l) out

-- there is room for them
pub record Room (l : List ℕ) (t : Text) : Type 0 where
  pub fits : t.len + length l ≤ length t.out.now

-- they stand behind the text, and the rest of the slice is as it was
pub record Printed (l : List ℕ) (t t' : Text) : Type 0 where
  pub same_reference : t'.out.ghost_name ≡ t.out.ghost_name
  pub same : t'.out.now ≡ laid t.out.now t.len l
  pub past : t'.len ≡ t.len + length l
  pub within : t'.len ≤ length t.out.now
  pub size : length t'.out.now ≡ length t.out.now
