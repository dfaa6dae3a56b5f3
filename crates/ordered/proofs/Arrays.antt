-- The place of a key among the first n elements of an array that rise there, and what halving keeps.
use mathlib.Core.Path.{◌≡◌, sym, ◌∙◌}
use mathlib.Core.List.{List}
use mathlib.Core.Bool.{false}
use Prim.Native.Nat.{ℕ, ◌+◌, ◌<◌, ◌≤◌}
use native.Mathlib.Nat.{le_refl, eq-or-lt_of_le}
use mathlib.Core.Logic.{⊎_elim}
use native.Mathlib.Omega.{arith}
use lib.Dec.{eqb}
use lib.ListN.{length, take, get_or}
use lib.Seq.{get_or-take, length-take-le}
use Rattle.rules.specs.Ordered.{self, rank, has, Rising}
use Rattle.rules.proofs.Ordered.{rank_is, rising_at, has_is, has_not}

-- what a loop over the first n elements of an array has found
pub rank_part : (xs : List ℕ) (n q r : ℕ) → r ≤ n → n ≤ length xs → ((k : ℕ) → k < r → get_or xs k 0 < q) → (r < n → q ≤ get_or xs r 0) → r ≡ rank self q (take n xs)
rank_part xs n q r le room below stop =
    let long : length (take n xs) ≡ n = length-take-le n xs room in
    sym (rank_is self 0 q (take n xs) r (omega arith) (λ k b. rw (get_or-take n xs k 0 (omega arith)) (below k b)) (λ b. let s : r < n = omega arith in rw (get_or-take n xs r 0 s) (stop s)))

-- what halving keeps: all below lo are less than q, and none from hi on is
pub record Halved (xs : List ℕ) (n q lo hi : ℕ) : Type 0 where
  pub order : lo ≤ hi
  pub end : hi ≤ n
  pub less : (k : ℕ) → k < lo → get_or xs k 0 < q
  pub more : (k : ℕ) → hi ≤ k → k < n → q ≤ get_or xs k 0

module _ (xs : List ℕ) (n : ℕ) (room : n ≤ length xs) (rise : Rising self (take n xs)) where
  pub part_rises : (i j : ℕ) → i < j → j < n → get_or xs i 0 < get_or xs j 0
  part_rises i j h h' =
      let long : length (take n xs) ≡ n = length-take-le n xs room in
      rw (get_or-take n xs i 0 (omega arith), get_or-take n xs j 0 h') at (rising_at self 0 (take n xs) i j rise h (omega arith))

  part_le : (i j : ℕ) → i ≤ j → j < n → get_or xs i 0 ≤ get_or xs j 0
  part_le i j h h' = ⊎_elim (λ (e : i ≡ j). rw e (le_refl (get_or xs j 0))) (λ (l : i < j). let lt : get_or xs i 0 < get_or xs j 0 = part_rises i j l h' in omega arith) (eq-or-lt_of_le h)

  pub halved_up : (q lo hi mid : ℕ) → Halved xs n q lo hi → mid < hi → get_or xs mid 0 < q → Halved xs n q (mid + 1) hi
  halved_up q lo hi mid v h t =
      record {
        order = omega arith;
        end = v.end;
        less = λ k b. let le : get_or xs k 0 ≤ get_or xs mid 0 = part_le k mid (omega arith) (omega arith) in omega arith;
        more = v.more;
      }

  pub halved_down : (q lo hi mid : ℕ) → Halved xs n q lo hi → lo ≤ mid → mid < hi → q ≤ get_or xs mid 0 → Halved xs n q lo mid
  halved_down q lo hi mid v h h' t =
      record {
        order = h;
        end = omega arith;
        less = v.less;
        more = λ k b b'. let le : get_or xs mid 0 ≤ get_or xs k 0 = part_le mid k b b' in omega arith;
      }

  pub halved_end : (q lo hi : ℕ) → Halved xs n q lo hi → hi ≤ lo → lo ≡ rank self q (take n xs)
  halved_end q lo hi v h = rank_part xs n q lo (omega arith) room v.less (λ b. v.more lo h b)

-- whether the key is among the first n elements, by the element at its place
pub has_part : (xs : List ℕ) (n q r : ℕ) → n ≤ length xs → r ≡ rank self q (take n xs) → r < n → eqb (get_or xs r 0) q ≡ has self q (take n xs)
has_part xs n q r room e h =
    let long : length (take n xs) ≡ n = length-take-le n xs room in
    sym (has_is self 0 q (take n xs) (omega arith) ∙ rw (← e, get_or-take n xs r 0 h))

pub has_past : (xs : List ℕ) (n q r : ℕ) → n ≤ length xs → r ≡ rank self q (take n xs) → n ≤ r → false ≡ has self q (take n xs)
has_past xs n q r room e h =
    let long : length (take n xs) ≡ n = length-take-le n xs room in
    sym (has_not self q (take n xs) (omega arith))
