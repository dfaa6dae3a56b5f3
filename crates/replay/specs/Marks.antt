-- Where a text of several images is cut: at its lines `=`.
use Rattle.std.specs.Prelude.{◌≡◌, Bool, true, false, List, ◌⊎◌, ℕ, ◌+◌, ◌-◌, ◌<◌, length, get_or, None, Some}
use Rattle.std.specs.declared.option.Option.{Option}

-- a line `=` begins at a place: the text's first or behind a newline (10), with the sign (61) and a newline
pub record Mark (t : List ℕ) (i : ℕ) : Type 0 where
  pub begins : (i ≡ 0) ⊎ (get_or t (i - 1) 0 ≡ 10)
  pub sign : get_or t i 0 ≡ 61
  pub ends : get_or t (i + 1) 0 ≡ 10
  pub inside : i + 1 < length t

-- whether one does
abbrev pub IsMark : Bool → List ℕ → ℕ → Type 0
IsMark true t i = Mark t i
IsMark false t i = Mark t i → ⊥

-- where the next one begins, if there is one
abbrev pub NextMark : List ℕ → Option ℕ → Type 0
NextMark t None = (i : ℕ) → Mark t i → ⊥
NextMark t (Some r) = Mark t r × ((i : ℕ) → i < r → Mark t i → ⊥)
