-- A run, whole: its number, and demand 3 of its map.
use Prim.Native.Nat.{ℕ, ◌≤◌}
use mathlib.Core.Path.{◌≡◌, refl, sym, ◌∙◌}
use mathlib.Core.Bool.{Bool, true, false}
use mathlib.Core.List.{List}
use mathlib.Core.Logic.{◌⊎◌, inl, inr}
use native.Mathlib.Omega.{arith}
use lib.Dec.{eqb, lit≤}
use borrow.Author.Tests.{eqb-true, eqb-false}
use Rattle.rules.specs.Choice.{if, by_if, Answer, ok, fault}
use Rattle.rules.specs.Given.{Given, image_of}
use Rattle.rules.specs.Check.{check}
use Rattle.rules.specs.Known.{Entry}
use Rattle.rules.specs.Map.{Capacity, detect}
use Rattle.rules.specs.Accounted.{Accounted}
use Rattle.rules.specs.Run.{run}
use Rattle.rules.proofs.Passes.{checked_of}
use Rattle.rules.proofs.Faults.{Number, fault_numbers}
use Rattle.rules.proofs.Demand3.{demand_3}

-- a check answers 0 to 3
pub check_most : (g : Given) → check g ≤ 3
unfolding check
check_most g =
    by_if (λ n. n ≤ 3) _ (λ _. by_if (λ n. n ≤ 3) _ (λ _. by_if (λ n. n ≤ 3) _ (λ _. lit≤ tt) (λ _. lit≤ tt)) (λ _. lit≤ tt)) (λ _. lit≤ tt)

module _ (g : Given) (cap : Capacity) where
  -- where the checks pass, it is the walk's answer
  pub run_walks : check g ≡ 0 → run g cap ≡ detect (image_of g) cap
  unfolding run if
  run_walks h = rw h

  -- where one fails, it is that check's number
  pub run_refuses : (check g ≡ 0 → ⊥) → run g cap ≡ fault (check g)
  unfolding run if
  run_refuses n = by (eqb (check g) 0) refl
    where
      by : (b : Bool) → eqb (check g) 0 ≡ b → if b (detect (image_of g) cap) (fault (check g)) ≡ fault (check g)
      by true e = absurd (n (eqb-true _ _ e))
      by false e = refl

  -- a number is a check's, before the walk, or the walk's: 4 to 17
  pub run_numbers : (n : ℕ) → run g cap ≡ fault n → ((n ≡ check g) × (1 ≤ n)) ⊎ ((check g ≡ 0) × Number n)
  run_numbers n h = by (eqb (check g) 0) refl
    where
      same : {a b : ℕ} → ◌≡◌ {A = Answer (List Entry)} (fault a) (fault b) → a ≡ b
      same q = cc

      by : (b : Bool) → eqb (check g) 0 ≡ b → ((n ≡ check g) × (1 ≤ n)) ⊎ ((check g ≡ 0) × Number n)
      by true e = let z : check g ≡ 0 = eqb-true _ _ e in inr (z, fault_numbers (image_of g) cap n (sym (run_walks z) ∙ h))
      by false e =
          let z : check g ≡ 0 → ⊥ = eqb-false _ _ e in
          let q : n ≡ check g = same (sym h ∙ run_refuses z) in
          inl (q, omega arith)

  -- demand 3, of every accepted map
  pub run_accounted : (es : List Entry) → run g cap ≡ ok es → Accounted (image_of g) es
  run_accounted es h = by (eqb (check g) 0) refl
    where
      never : {n : ℕ} → ◌≡◌ {A = Answer (List Entry)} (fault n) (ok es) → ⊥
      never q = let z : ◌≡◌ {A = ℕ} 0 1 = cc in omega arith

      by : (b : Bool) → eqb (check g) 0 ≡ b → Accounted (image_of g) es
      by true e = let z : check g ≡ 0 = eqb-true _ _ e in demand_3 (image_of g) cap es (checked_of g z) (sym (run_walks z) ∙ h)
      by false e = absurd (never (sym (run_refuses (eqb-false _ _ e)) ∙ h))
