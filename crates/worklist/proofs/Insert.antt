-- Where an address goes among the pending ones: an insertion into the ascending list is the rules' into the list with the highest first.
use Rattle.std.proofs.Common.{◌≡◌, ℕ, zero, suc, ◌+◌, ◌-◌, ◌<◌, ◌≤◌, List, [], ◌∷◌, ◌++◌, length, get_or, take, drop, refl, sym, ap, ◌∙◌, arith}
use Rattle.std.specs.Prelude.{leb, reverse}
use Rattle.std.specs.List.Sorted.{IsNonDecreasing}
use Rattle.std.proofs.lemmas.List.{reverse-append, length-reverse, get_or-reverse, take-append-drop, length-take-le, length-drop}
use lib.Seq.{get_or-take, get_or-drop}
use mathlib.Core.List.{append_assoc}
use Rattle.std.proofs.lemmas.List.Sorted.{IsNonDecreasingBy-insert}
use Rattle.worklist.specs.Pending.{IsPlace}
use borrow.Author.Tests.{le-leb, lt-leb}
use Rattle.rules.specs.Choice.{if_true, if_false, by_if, ok, fault, limited}
use Rattle.rules.specs.Step.{insert}

-- each is above a
Above : ℕ → List ℕ → Type 0
Above a [] = Unit {0}
Above a (x ∷ l) = (a < x) × Above a l

above_last : (a x : ℕ) (l : List ℕ) → Above a l → a < x → Above a (l ++ x ∷ [])
unfolding Above
above_last a x [] h lt = (lt, tt)
above_last a x (y ∷ l) h lt = (h.0, above_last a x l h.1 lt)

above_reverse : (a : ℕ) (l : List ℕ) → ((k : ℕ) → k < length l → a < get_or l k 0) → Above a (reverse l)
unfolding Above
above_reverse a [] h = tt
above_reverse a (x ∷ l) h =
    rw (reverse-append (x ∷ []) l) (above_last a x (reverse l) (above_reverse a l (λ k lt. h (suc k) (omega arith))) (h 0 (omega arith)))

-- what is below all of them goes behind them
insert_above : (a : ℕ) (l m : List ℕ) → Above a l → insert a (l ++ m) ≡ l ++ insert a m
unfolding Above
insert_above a [] m h = refl
insert_above a (x ∷ l) m h = if_false (lt-leb x a h.0) _ _ ∙ ap (λ r. x ∷ r) (insert_above a l m h.1)

-- what is not below the last goes before it, where the highest is first
insert_first : (a : ℕ) (xs : List ℕ) → (0 < length xs → get_or xs (length xs - 1) 0 ≤ a) → insert a (reverse xs) ≡ a ∷ reverse xs
insert_first a xs h = go (reverse xs) refl
  where
    go : (l : List ℕ) → reverse xs ≡ l → insert a l ≡ a ∷ l
    go [] e = refl
    go (x ∷ l) e =
        let some : 0 < length xs = omega (arith, length-reverse xs, ap length e) in
        let last : length xs - 1 ≡ length xs - 1 - 0 = omega arith in
        let head : get_or xs (length xs - 1) 0 ≡ x = ap (λ k. get_or xs k 0) last ∙ sym (get_or-reverse xs 0 0 some) ∙ ap (λ (m : List ℕ). get_or m 0 0) e in
        if_true (le-leb x a (omega (arith, head, h some))) _ _

-- the one before the place is no higher, and each behind it is
insert_reversed : (xs : List ℕ) (i a : ℕ) → i ≤ length xs → (0 < i → get_or xs (i - 1) 0 ≤ a) → ((k : ℕ) → i ≤ k → k < length xs → a < get_or xs k 0) → reverse (take i xs ++ a ∷ drop i xs) ≡ insert a (reverse xs)
insert_reversed xs i a le low high =
    reverse-append (take i xs) (a ∷ drop i xs)
    ∙ ap (λ m. m ++ reverse (take i xs)) (reverse-append (a ∷ []) (drop i xs))
    ∙ append_assoc (reverse (drop i xs)) (a ∷ []) (reverse (take i xs))
    ∙ sym (ap (λ m. reverse (drop i xs) ++ m) (insert_first a (take i xs) before))
    ∙ sym (insert_above a (reverse (drop i xs)) (reverse (take i xs)) (above_reverse a (drop i xs) behind))
    ∙ sym (ap (insert a) (reverse-append (take i xs) (drop i xs)))
    ∙ ap (λ m. insert a (reverse m)) (take-append-drop i xs)
  where
    long : length (take i xs) ≡ i
    long = length-take-le i xs le

    before : 0 < length (take i xs) → get_or (take i xs) (length (take i xs) - 1) 0 ≤ a
    before pos = rw (long, get_or-take i xs (i - 1) 0 (omega (arith, long))) (low (omega (arith, long)))

    behind : (k : ℕ) → k < length (drop i xs) → a < get_or (drop i xs) k 0
    behind k lt = rw (get_or-drop i xs k 0) (high (i + k) (omega arith) (omega (arith, length-drop i xs)))

-- one more
length_insert : (a : ℕ) (l : List ℕ) → length (insert a l) ≡ suc (length l)
length_insert a [] = refl
length_insert a (x ∷ l) = by_if (λ (r : List ℕ). length r ≡ suc (suc (length l))) (leb x a) (λ _. refl) (λ _. ap suc (length_insert a l))

-- a push where there is room, and where there is none
pub push_fits : (xs : List ℕ) (i a : ℕ) → i ≤ length xs → (0 < i → get_or xs (i - 1) 0 ≤ a) → ((k : ℕ) → i ≤ k → k < length xs → a < get_or xs k 0) → length xs < 256 → ok (reverse (take i xs ++ a ∷ drop i xs)) ≡ limited 256 (insert a (reverse xs))
unfolding limited
push_fits xs i a within low high room =
    ap ok (insert_reversed xs i a within low high)
    ∙ sym (if_true (le-leb (length (insert a (reverse xs))) 256 (omega (arith, length_insert a (reverse xs), length-reverse xs))) _ _)

pub push_full : (xs : List ℕ) (a : ℕ) → length xs ≡ 256 → fault 4 ≡ limited 256 (insert a (reverse xs))
unfolding limited
push_full xs a full =
    sym (if_false (lt-leb (length (insert a (reverse xs))) 256 (omega (arith, length_insert a (reverse xs), length-reverse xs))) _ _)

pub still_ascending : (xs : List ℕ) (i a : ℕ) → IsNonDecreasing xs → IsPlace xs a i → IsNonDecreasing (take i xs ++ a ∷ drop i xs)
still_ascending xs i a up place =
    IsNonDecreasingBy-insert (λ x. x) xs i a up place.within
    (λ k d lt. rw (default_aside xs k d 0 (omega (arith, place.within))) (place.low k lt))
    (λ k d ge lt. rw (default_aside xs k d 0 lt) (omega (arith, place.high k ge lt)))
  where
    default_aside : (xs : List ℕ) (k d e : ℕ) → k < length xs → get_or xs k d ≡ get_or xs k e
    default_aside [] k d e h = absurd (omega arith)
    default_aside (x ∷ xs) zero d e h = refl
    default_aside (x ∷ xs) (suc k) d e h = default_aside xs k d e (omega arith)
