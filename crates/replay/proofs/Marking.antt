-- The places of lines `=`.
use mathlib.Core.Path.{◌≡◌, refl, sym, ◌∙◌}
use mathlib.Core.Bool.{Bool, true, false}
use mathlib.Core.List.{List}
use mathlib.Core.Logic.{◌⊎◌, inl, inr}
use Prim.Native.Nat.{ℕ, zero, suc, ◌+◌, ◌-◌, ◌≤◌}
use native.Mathlib.Omega.{arith}
use lib.ListN.{length, take, drop, get_or, length-drop}
use lib.Seq.{take_all, get_or-drop}
use borrow.Author.Rules.{rules}
use Rattle.std.specs.Prelude.{None, Some}
use Rattle.replay.specs.Marks.{Mark, IsMark, NextMark}
use Rattle.replay.specs.Rest.{Cut, Rest}

pub marked : (b : Bool) (t : List ℕ) (i : ℕ) → IsMark b t i → b ≡ true → Mark t i
marked true t i m e = m
marked false t i m e = absurd (search (rules, e))

pub unmarked : (b : Bool) (t : List ℕ) (i : ℕ) → IsMark b t i → b ≡ false → Mark t i → ⊥
unmarked true t i m e = absurd (search (rules, e))
unmarked false t i m e = m

-- ---- a mark behind a place at which the text is cut

module _ (t : List ℕ) (at : ℕ) (h : at ≤ length t) (k : Cut t at) where
  -- the place begins a line
  at_start : (m : ℕ) → m ≡ 0 → Cut t at → (at + m ≡ 0) ⊎ (get_or t (at + m - 1) 0 ≡ 10)
  at_start m z (inl e) = inl (omega arith)
  at_start m z (inr p) = let l : 2 ≤ at = p.0 in let e : at - 2 + 1 ≡ at + m - 1 = omega arith in inr (rw e at p.1.ends)

  begins_moved : (m : ℕ) → (m ≡ 0) ⊎ (get_or (drop at t) (m - 1) 0 ≡ 10) → (at + m ≡ 0) ⊎ (get_or t (at + m - 1) 0 ≡ 10)
  begins_moved zero b = at_start 0 refl k
  begins_moved (suc m) (inl z) = absurd (omega arith)
  begins_moved (suc m) (inr g) =
      let e : at + (suc m - 1) ≡ at + suc m - 1 = omega arith in
      inr (rw e at (sym (get_or-drop at t (suc m - 1) 0) ∙ g))

  -- so a line `=` of what is behind it is one of the text
  mark_moved : (m : ℕ) → Mark (drop at t) m → Mark t (at + m)
  mark_moved m q =
      let e : at + (m + 1) ≡ at + m + 1 = omega arith in
      record {
        begins = begins_moved m q.begins;
        sign = sym (get_or-drop at t m 0) ∙ q.sign;
        ends = rw e at (sym (get_or-drop at t (m + 1) 0) ∙ q.ends);
        inside = omega (arith, q.inside, length-drop at t);
      }

  whole : take (length t - at) (drop at t) ≡ drop at t
  whole = take_all (length t - at) (drop at t) (omega (arith, length-drop at t))

  -- the text is cut behind the next one, too
  pub next_cut : (m : ℕ) → NextMark (take (length t - at) (drop at t)) (Some m) → (at + (m + 2) ≤ length t) × Cut t (at + (m + 2))
  next_cut m n =
      let q : Mark t (at + m) = mark_moved m (rw whole at n.0) in
      let e : at + m ≡ at + (m + 2) - 2 = omega arith in
      (omega (arith, q.inside), inr (omega arith, rw e at q))

  -- or there is none
  pub none_behind : NextMark (take (length t - at) (drop at t)) None → Rest t at
  none_behind n = record { within = h; behind = k; unmarked = rw whole at n }
