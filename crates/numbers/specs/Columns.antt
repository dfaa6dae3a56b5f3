-- A number of each row.
use Rattle.std.specs.Prelude.{◌≡◌, ℕ}
use denote.Ref.{Bor}

-- what a call may give of each row is its number
abbrev pub Computes : {T : Type 0} → (Bor T → ℕ → Type 0) → (T → ℕ) → Type 0
Computes {T} post f = (x : Bor T) (n : ℕ) → post x n → n ≡ f x.now
