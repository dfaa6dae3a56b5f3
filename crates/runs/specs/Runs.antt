-- A run of elements put in the place of another; elements with zeros past them.
use Rattle.std.specs.Prelude.{List, ◌++◌, ℕ, ◌+◌, ◌-◌, ◌≤◌, length, take, replicate}
use Rattle.std.proofs.Math.Seq.{slice}

-- the first total elements of xs, with a list in the place of those from at up to until
abbrev pub spliced : List ℕ → ℕ → ℕ → ℕ → List ℕ → List ℕ
spliced xs total at until new = take at xs ++ new ++ slice until total xs

-- n elements in the place of those from at up to until, and the rest of the first total, fit xs
pub record Fits (xs : List ℕ) (total at until n : ℕ) : Type 0 where
  pub order : at ≤ until
  pub within : until ≤ total
  pub lent : total ≤ length xs
  pub room : at + n + (total - until) ≤ length xs

-- a list, and zeros past it up to a length
abbrev pub padded : List ℕ → ℕ → List ℕ
padded l n = l ++ replicate (n - length l) 0
