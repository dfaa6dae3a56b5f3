-- What is put in the place of a word's ways on: where they stand, and what the rows are then.
use mathlib.Core.Path.{◌≡◌, refl, sym, ap, ◌∙◌}
use mathlib.Core.List.{List, [], ◌∷◌, ◌++◌, map, append_assoc}
use mathlib.Core.Bool.{true, false}
use Prim.Native.Nat.{ℕ, zero, suc, ◌+◌, ◌-◌, ◌<◌, ◌≤◌}
use native.Mathlib.Omega.{arith}
use native.Mathlib.Nat.{le_of_suc-le-suc}
use lib.Dec.{leb}
use lib.ListN.{length, take, drop, get_or, length-append, length-map, length-drop, drop_of_length-le}
use lib.Seq.{length-take-le, take_at, drop_at}
use Rattle.std.proofs.Math.Seq.{take-length}
use Rattle.std.proofs.lemmas.List.{append-nil}
use borrow.Author.Tests.{leb-true, leb-false, lt-leb, le-leb}
use Rattle.std.specs.List.{replace_range, refill}
use Rattle.std.specs.List.Sorted.{IsNonDecreasingBy, IsPartitionPoint}
use Rattle.rules.specs.Choice.{if_true, if_false, ok, fault}
use Rattle.rules.specs.Ordered.{rank, put, Rising}
use Rattle.rules.specs.Slices.{from_of, count_branches}
use Rattle.rules.proofs.Ordered.{rank_is, rank_le, put_rising}
use Rattle.tables.specs.declared.multimap.Way.{Way}
use Rattle.tables.specs.Groups.{way, leaves, branches_of, grouped, limited_ways}
use Rattle.tables.proofs.Groups.{replaced, put_pairs, count_grouped, rank_next, next_leaves, rising_rest}

-- the words that ways on leave do not fall
first_le : (p : Way) (l : List Way) (j : ℕ) (d : Way) → Rising from_of (grouped (p ∷ l)) → j < length l → p.from ≤ (get_or l j d).from
first_le p [] j d r h = absurd (omega arith)
first_le p (q ∷ l) zero d r h = next_leaves p q l r
first_le p (q ∷ l) (suc j) d r h = omega (arith, next_leaves p q l r, first_le q l j d (rising_rest p (q ∷ l) r) (le_of_suc-le-suc h))

pub leaves_rise : (l : List Way) → Rising from_of (grouped l) → IsNonDecreasingBy leaves l
leaves_rise [] r i j d le h = absurd (omega arith)
leaves_rise (p ∷ l) r zero zero d le h = omega arith
leaves_rise (p ∷ l) r zero (suc j) d le h = first_le p l j d r (le_of_suc-le-suc h)
leaves_rise (p ∷ l) r (suc i) zero d le h = absurd (omega arith)
leaves_rise (p ∷ l) r (suc i) (suc j) d le h = leaves_rise l (rising_rest p l r) i j d (le_of_suc-le-suc le) (le_of_suc-le-suc h)

-- where those that leave a word or one below it end
pub past_place : (k i : ℕ) (l : List Way) → i ≤ length l → IsPartitionPoint (λ w. leb (leaves w) k ≡ true) (λ w. leb (leaves w) k ≡ false) l i → i ≡ rank leaves (suc k) l
past_place k i l h p =
    sym (rank_is leaves (way 0 0) (suc k) l i h
    (λ j b. let le : leaves (get_or l j (way 0 0)) ≤ k = leb-true _ _ (p.0 j (way 0 0) (omega arith) b) in omega arith)
    (λ b. let lt : k < leaves (get_or l i (way 0 0)) = leb-false _ _ (p.1 i (way 0 0) (omega arith) b) in omega arith))

put_some : (k : ℕ) (new : List ℕ) (l : List Way) → 0 < length new → Rising from_of (grouped l) → grouped (replaced k (map (way k) new) l) ≡ put from_of (branches_of k new) (grouped l)
put_some k [] l h r = absurd (omega arith)
put_some k (t ∷ new) l h r = put_pairs k t new l r

-- how long a list is with a part replaced
length_replaced : {A : Type 0} → (i j : ℕ) (l ys : List A) → i ≤ j → j ≤ length l → length (replace_range l i j ys) + (j - i) ≡ length l + length ys
length_replaced i j l ys le h =
    let front : length (take i l) ≡ i = length-take-le i l (omega arith) in
    let back : length (drop j l) ≡ length l - j = length-drop j l in
    omega (arith, length-append (take i l ++ ys) (drop j l), length-append (take i l) ys)

pub until_le : (l : List Way) (k until : ℕ) → until ≡ rank leaves (suc k) l → until ≤ length l
until_le l k until e = rw e (rank_le leaves (suc k) l)

module _ (l : List Way) (k : ℕ) (targets : List ℕ) {at until : ℕ} (some : 0 < length targets) (rise : Rising from_of (grouped l)) (at_is : at ≡ rank leaves k l) (until_is : until ≡ rank leaves (suc k) l) where
  pub in_order : at ≤ until
  in_order = rw (at_is, until_is) (rank_next k l)

  within : until ≤ length l
  within = until_le l k until until_is

  new_rows : grouped (replace_range l at until (map (way k) targets)) ≡ put from_of (branches_of k targets) (grouped l)
  new_rows = rw (at_is, until_is) (ap grouped (append_assoc (take (rank leaves k l) l) (map (way k) targets) (drop (rank leaves (suc k) l) l)) ∙ put_some k targets l some rise)

  new_count : count_branches (put from_of (branches_of k targets) (grouped l)) + (until - at) ≡ length l + length targets
  new_count =
      let long : length (map (way k) targets) ≡ length targets = length-map targets (way k) in
      let whole : count_branches (put from_of (branches_of k targets) (grouped l)) ≡ length (replace_range l at until (map (way k) targets)) =
      sym (sym (count_grouped (replace_range l at until (map (way k) targets))) ∙ ap count_branches new_rows)
      in
      omega (arith, whole, length_replaced at until l (map (way k) targets) in_order within)

  pub ways_rise : (m : List Way) → m ≡ replace_range l at until (map (way k) targets) → Rising from_of (grouped m)
  ways_rise m e = rw (e, new_rows) (put_rising from_of (branches_of k targets) (grouped l) rise)

  pub ways_full : (n kept : ℕ) → kept ≡ length l - (until - at) → length l ≤ n → n - kept < length targets → fault 4 ≡ limited_ways n (put from_of (branches_of k targets) (grouped l))
  ways_full n kept e f h = sym (if_false (lt-leb _ _ (omega (arith, new_count, in_order, within))) _ _)

  pub ways_fit : (n : ℕ) (m : List Way) → length l + length targets ≤ n + (until - at) → m ≡ replace_range l at until (map (way k) targets) → ok (grouped m) ≡ limited_ways n (put from_of (branches_of k targets) (grouped l))
  ways_fit n m h e = ap ok (ap grouped e ∙ new_rows) ∙ sym (if_true (le-leb _ _ (omega (arith, new_count))) _ _)

-- what is put behind a list, brought forward past its back
module _ {A : Type 0} (front back ps : List A) where
  abbrev whole : List A
  whole = front ++ (back ++ ps)

  abbrev part : List A
  part = take (length whole - length front) (drop (length front) whole)

  in_place : refill (length whole) whole (take (length front) whole ++ ((drop (length part - length ps) part ++ take (length part - length ps) part) ++ drop (length whole - length front) (drop (length front) whole))) ≡ (front ++ ps) ++ back
  in_place =
      let a : take (length front) whole ≡ front = take_at front (back ++ ps) (length front) refl in
      let b : drop (length front) whole ≡ back ++ ps = drop_at front (back ++ ps) (length front) refl in
      let n : length whole - length front ≡ length (back ++ ps) = omega (arith, length-append front (back ++ ps)) in
      let t : take (length (back ++ ps)) (back ++ ps) ≡ back ++ ps = take-length (back ++ ps) in
      let d : drop (length (back ++ ps)) (back ++ ps) ≡ [] = drop_of_length-le (back ++ ps) (omega arith) in
      let m : length (back ++ ps) - length ps ≡ length back = omega (arith, length-append back ps) in
      let x : drop (length back) (back ++ ps) ≡ ps = drop_at back ps (length back) refl in
      let y : take (length back) (back ++ ps) ≡ back = take_at back ps (length back) refl in
      let q : front ++ ((ps ++ back) ++ []) ≡ (front ++ ps) ++ back = ap (λ r. front ++ r) (append-nil (ps ++ back)) ∙ sym (append_assoc front ps back) in
      let long : length ((front ++ ps) ++ back) ≡ length whole = omega (arith, length-append (front ++ ps) back, length-append front ps, length-append front (back ++ ps), length-append back ps) in
      rw (a, b, n, t, d, m, x, y, q) (take_at ((front ++ ps) ++ back) _ (length whole) long)

  pub brought_forward : (xs now rot : List A) (at k : ℕ) → at ≡ length front → k ≡ length ps → xs ≡ (front ++ back) ++ ps → now ≡ xs
      → rot ≡ drop (length (take (length now - at) (drop at now)) - k) (take (length now - at) (drop at now)) ++ take (length (take (length now - at) (drop at now)) - k) (take (length now - at) (drop at now))
      → refill (length xs) xs (take at now ++ (rot ++ drop (length now - at) (drop at now))) ≡ (front ++ ps) ++ back
  brought_forward xs now rot at k ea ek ex en er =
      let e : xs ≡ whole = ex ∙ append_assoc front back ps in
      rw (er, en, e, ea, ek) in_place
