-- A list of a function changed within its limit, and options as the rules' numbers.
use mathlib.Core.Path.{◌≡◌, refl, sym, ap, ◌∙◌}
use mathlib.Core.List.{List, [], ◌∷◌}
use mathlib.Core.Bool.{Bool, true, false, not}
use Prim.Native.Nat.{ℕ, ◌+◌, ◌-◌, ◌<◌, ◌≤◌}
use native.Mathlib.Omega.{arith}
use lib.ListN.{length}
use borrow.Author.Tests.{ne_eqb, ltb-false}
use lib.Dec.{ltb}
use Rattle.std.proofs.lemmas.Bool.Decides.{nat_tests}
use Rattle.std.specs.Prelude.{Option, Some, None, Result, Ok, Err, unwrap_or, slice_get, is_some}
use Rattle.rules.specs.Choice.{Answer, ok, ◌>>=◌, if, if_false}
use Rattle.rules.specs.Ordered.{self as own, empty, upper}
use Rattle.rules.specs.Blocks.{Block, first_start, last_start, last_end}
use Rattle.rules.specs.Slices.{Slices}
use Rattle.faults.specs.declared.Fault.{Fault}
use Rattle.faults.specs.Outcome.{outcome}
use Rattle.tables.specs.declared.maps.Row.{Row}
use Rattle.tables.specs.Rows.{row}
use Rattle.tables.specs.Places.{first_from}
use Rattle.tables.proofs.Places.{or_first, or_last, or_upper}
use Rattle.slices.specs.Some.{some_nonzero, or_zero}
use Rattle.slices.specs.Blocks.{block_of, blocks_of}
use Rattle.slices.proofs.Rows.{first_rows, last_rows}

-- a list put back among the others, or the fault that it met
pub passed : {A X : Type 0} (with : List A → Slices) (m : List A) (a : Answer (List A)) (r : Result X Fault) → outcome m r ≡ a → outcome (with m) r ≡ (a >>= λ x. ok (with x))
unfolding ◌>>=◌
passed with m a (Ok u) e = rw (← e) refl
passed with m a (Err x) e = rw (← e) refl

-- the first and the last block
pub first_start_is : (l : List Row) (r : Option Row) → r ≡ slice_get l 0 → (unwrap_or r (row 0 0)).key ≡ first_start (blocks_of l)
unfolding first_start
first_start_is l r e = rw e (ap (λ (x : Row). x.key) (or_first (row 0 0) l) ∙ ap (λ (b : Block). b.start) (first_rows block_of (row 0 0) l))

pub last_start_is : (l : List Row) (r : Option Row) → r ≡ slice_get l (length l - 1) → (unwrap_or r (row 0 0)).key ≡ last_start (blocks_of l)
unfolding last_start
last_start_is l r e = rw e (ap (λ (x : Row). x.key) (or_last (row 0 0) l) ∙ ap (λ (b : Block). b.start) (last_rows block_of (row 0 0) l))

pub last_end_is : (l : List Row) (r : Option Row) → r ≡ slice_get l (length l - 1) → (unwrap_or r (row 0 0)).value ≡ last_end (blocks_of l)
unfolding last_end
last_end_is l r e = rw e (ap (λ (x : Row). x.value) (or_last (row 0 0) l) ∙ ap (λ (b : Block). b.end) (last_rows block_of (row 0 0) l))

-- whether there is one
pub some_first : (l : List Row) (r : Option Row) → r ≡ slice_get l 0 → is_some r ≡ not (empty (blocks_of l))
some_first [] r e = rw e refl
some_first (x ∷ l) r e = rw e refl

last_some : {A : Type 0} (x : A) (l : List A) → is_some (slice_get (x ∷ l) (length l)) ≡ true
last_some x [] = refl
last_some x (y ∷ l) = last_some y l

pub some_last : (l : List Row) (r : Option Row) → r ≡ slice_get l (length l - 1) → is_some r ≡ not (empty (blocks_of l))
some_last [] r e = rw e refl
some_last (x ∷ l) r e = rw e (ap (λ i. is_some (slice_get (x ∷ l) i)) (omega arith) ∙ last_some x l)

-- the first possible block from an address on
pub next_is : (k : ℕ) (l : List ℕ) (r : Option ℕ) → r ≡ first_from own k l → or_zero r ≡ upper own k 0 l
next_is k l r e = or_zero_is r ∙ ap (λ o. unwrap_or o 0) e ∙ or_upper own k 0 l
  where
    or_zero_is : (r : Option ℕ) → or_zero r ≡ unwrap_or r 0
    or_zero_is None = refl
    or_zero_is (Some x) = refl

pub none_zero : (n : ℕ) → 0 ≡ n → None ≡ some_nonzero n
unfolding if
none_zero n e = rw (← e) refl

pub some_value : (m n : ℕ) → m ≡ n → (m ≡ 0 → ⊥) → Some m ≡ some_nonzero n
some_value m n e h = rw (← e) (sym (if_false (ne_eqb m 0 h) _ _))

-- behind a word nothing is 0
pub first_nonzero : (k : ℕ) (l : List ℕ) → 0 < k → first_from own k l ≡ some_nonzero (upper own k 0 l)
unfolding if
first_nonzero k [] h = refl
first_nonzero k (x ∷ l) h = go (ltb x k) refl (first_nonzero k l h)
  where
    go : (b : Bool) → ltb x k ≡ b → first_from own k l ≡ some_nonzero (upper own k 0 l) → if b (first_from own k l) (Some x) ≡ some_nonzero (if b (upper own k 0 l) x)
    go true e r = r
    go false e r = let g : k ≤ x = ltb-false x k e in some_value x x refl (λ z. absurd (omega arith))

pub up_to_word : (x k : ℕ) → ltb (x - k) 4 ≡ ltb x (k + 4)
up_to_word x k = grind (arith, nat_tests)
