-- What the functions on sets ensure at each return, from what the functions that they call ensure.
use mathlib.Core.Path.{◌≡◌, refl, sym, ap, ◌∙◌}
use mathlib.Core.List.{List, ◌∷◌}
use mathlib.Core.Bool.{Bool, true, false}
use Prim.Native.Nat.{ℕ, suc, ◌+◌, ◌-◌, ◌<◌, ◌≤◌}
use native.Mathlib.Numerals.{add-one}
use native.Mathlib.Omega.{arith}
use lib.ListN.{length, take, drop, set, length-set}
use lib.Seq.{length-take-le, take-set-lt, drop-set-lt}
use borrow.Author.Tests.{le-ltb, lt-ltb}
use Rattle.rules.specs.Choice.{if, if_true, if_false}
use Rattle.rules.specs.Ordered.{self, rank, has, put, without, insert_at, remove_at}
use Rattle.rules.proofs.Ordered.{rank_le, has_below, put_held, put_new, length_insert_at, lower_is, without_is, without_not}
use Rattle.ordered.specs.Part.{Changed, Inserted, Replaced, Removed, IsFound, IsNearest, IsInserted, IsRemoved}
use Rattle.ordered.specs.declared.Found.{Found}

-- an array that stays
pub unchanged : (xs : List ℕ) (n : ℕ) → n ≤ length xs → Changed xs xs n (take n xs) (drop n xs)
unchanged xs n h = record { count = length-take-le n xs h; live = refl; rest = refl; size = refl }

pub replaced : (xs : List ℕ) (n i v : ℕ) → i < n → n ≤ length xs → Replaced xs (set xs i v) n i v
replaced xs n i v h le =
    record {
      count = length-set (take n xs) i v ∙ length-take-le n xs le;
      live = take-set-lt n xs i v h;
      rest = drop-set-lt n xs i v h;
      size = length-set xs i v;
    }

pub nearest_none : (l : List ℕ) (key i : ℕ) → i ≡ rank self key l → i ≡ 0 → IsNearest l key (record { some = false; at = 0 })
unfolding if
nearest_none l key i e z = record { place = sym e ∙ z; value = λ d. lower_is self 0 d key l ∙ rw (← e, z); none = λ _. refl }

nearest_next : (l : List ℕ) (key i j : ℕ) → i ≡ rank self key l → i ≡ suc j → IsNearest l key (record { some = true; at = j })
unfolding if
nearest_next l key i j e s = record { place = sym e ∙ s; value = λ d. lower_is self 0 d key l ∙ rw (← e, s); none = λ t. let z : ◌≡◌ {A = ℕ} 0 1 = cc in absurd (omega arith) }

pub nearest_some : (l : List ℕ) (key i : ℕ) → i ≡ rank self key l → (i ≡ 0 → ⊥) → IsNearest l key (record { some = true; at = i - 1 })
nearest_some l key i e h = nearest_next l key i (i - 1) e (omega arith)

-- a set in the first n elements, where the key was looked up
module _ (xs : List ℕ) (n key : ℕ) (f : Found) (fits : n ≤ length xs) (is : IsFound (take n xs) key f) where
  long : length (take n xs) ≡ n
  long = length-take-le n xs fits

  pub at_le : f.at ≤ n
  at_le = omega (arith, is.place, rank_le self key (take n xs), long)

  there : (b : Bool) → f.hit ≡ b → has self key (take n xs) ≡ b
  there b e = sym is.hit ∙ e

  pub at_lt : f.hit ≡ true → f.at < n
  at_lt e = omega (arith, is.place, has_below self key (take n xs) (there true e), long)

  pub removed : (ys : List ℕ) (m : ℕ) → f.hit ≡ true → Removed xs ys n f.at m → IsRemoved xs ys n key m
  removed ys m e r =
      let same : without self key (take n xs) ≡ remove_at f.at (take n xs) = without_is self key (take n xs) (there true e) ∙ rw is.place in
      rw (same, if_true (there true e) (0 ∷ drop n xs) (drop n xs)) r

  pub absent : f.hit ≡ false → IsRemoved xs xs n key n
  absent e = rw (without_not self key (take n xs) (there false e), if_false (there false e) (0 ∷ drop n xs) (drop n xs)) (unchanged xs n fits)

-- a set that may have as many elements as there is room
module _ (xs : List ℕ) (n room key : ℕ) (f : Found) (le : n ≤ room) (lent : room ≤ length xs) (is : IsFound (take n xs) key f) where
  fits : n ≤ length xs
  fits = omega arith

  pub place_le : f.at ≤ n
  place_le = at_le xs n key f fits is

  pub already : f.hit ≡ true → IsInserted xs xs n room key (record { count = n; full = false })
  unfolding if
  already e =
      let same : put self key (take n xs) ≡ take n xs = put_held key (take n xs) (there xs n key f fits is true e) in
      record { full = sym (rw (same, length-take-le n xs fits) (le-ltb room n le)); set = rw same (unchanged xs n fits) }

  module _ (e : f.hit ≡ false) where
    new : put self key (take n xs) ≡ insert_at f.at key (take n xs)
    new = put_new self key (take n xs) (there xs n key f fits is false e) ∙ rw is.place

    grown : length (put self key (take n xs)) ≡ suc n
    grown = ap length new ∙ length_insert_at f.at key (take n xs) ∙ ap suc (length-take-le n xs fits)

    pub full : n ≡ room → IsInserted xs xs n room key (record { count = n; full = true })
    unfolding if
    full at_end = record { full = sym (rw grown (lt-ltb room (suc n) (omega arith))); set = unchanged xs n fits }

    pub inserted : (ys : List ℕ) → (n ≡ room → ⊥) → Inserted xs ys n f.at key → IsInserted xs ys n room key (record { count = n + 1; full = false })
    unfolding if
    inserted ys ne p = rw (add-one n) (record { full = sym (rw grown (le-ltb room (suc n) (omega arith))); set = rw new p })
