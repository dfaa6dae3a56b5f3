-- A loop that moves the elements from i up to n up by one, from the top down.
use mathlib.Core.Path.{◌≡◌, refl, sym, ap, ap₂, ◌∙◌}
use mathlib.Core.List.{List, [], ◌∷◌, ◌++◌, append_assoc}
use Prim.Native.Nat.{ℕ, suc, ◌+◌, ◌<◌, ◌≤◌}
use native.Mathlib.Omega.{arith}
use native.Mathlib.Numerals.{add-one}
use lib.ListN.{length, take, drop, get_or, set, length-set}
use lib.Seq.{drop-cons, drop-set-lt, drop-drop, get_or-drop, take-suc-set, take_all, get_or-set_same, slice, slice_empty, slice-cons, set_split, take-set-le, take-take, take-suc, append_snoc, set_at, get_or-take, length-take-le, take_at, drop_at}
use Rattle.rules.specs.Ordered.{insert_at, remove_at}
use Rattle.ordered.specs.Part.{Inserted, Removed}
use Rattle.rules.proofs.Ordered.{insert_at_split, length_insert_at, length_remove_at, take_remove_at, getD_remove_at}

-- the loop at k: below k all is as it was, and with v stored at k the array is the first k, v, the rest of the n, and what is past n
pub record Moved (old : List ℕ) (n k : ℕ) (now : List ℕ) : Type 0 where
  pub low : take k now ≡ take k old
  pub size : length now ≡ length old
  pub gap : (v : ℕ) → set now k v ≡ take k old ++ (v ∷ (slice k n old ++ drop (suc n) old))

pub moved_start : (old : List ℕ) (n : ℕ) → n < length old → Moved old n n old
moved_start old n h = record { low = refl; size = refl; gap = λ v. set_split old n v h ∙ ap (λ (r : List ℕ). take n old ++ (v ∷ (r ++ drop (suc n) old))) (sym (slice_empty n old)) }

module _ (old : List ℕ) (n j : ℕ) (xs : List ℕ) (lt : j < n) (room : n < length old) (m : Moved old n (suc j) xs) where
  same : get_or xs j 0 ≡ get_or old j 0
  same = sym (get_or-take (suc j) xs j 0 (omega arith)) ∙ ap (λ (l : List ℕ). get_or l j 0) m.low ∙ get_or-take (suc j) old j 0 (omega arith)

  pub moved_suc : Moved old n j (set xs (suc j) (get_or xs j 0))
  moved_suc =
      record {
        low = take-set-le j xs (suc j) (get_or xs j 0) (omega arith) ∙ sym (take-take j (suc j) xs (omega arith)) ∙ ap (λ (l : List ℕ). take j l) m.low ∙ take-take j (suc j) old (omega arith);
        size = length-set xs (suc j) (get_or xs j 0) ∙ m.size;
        gap = λ v.
            ap (λ (l : List ℕ). set l j v) (m.gap (get_or xs j 0))
            ∙ ap (λ (l : List ℕ). set (l ++ (get_or xs j 0 ∷ (slice (suc j) n old ++ drop (suc n) old))) j v) (take-suc old j 0 (omega arith))
            ∙ ap (λ (l : List ℕ). set l j v) (append_snoc (take j old) (get_or old j 0) (get_or xs j 0 ∷ (slice (suc j) n old ++ drop (suc n) old)))
            ∙ set_at (take j old) (get_or old j 0) (get_or xs j 0 ∷ (slice (suc j) n old ++ drop (suc n) old)) v j (length-take-le j old (omega arith))
            ∙ ap (λ (y : ℕ). take j old ++ (v ∷ (y ∷ (slice (suc j) n old ++ drop (suc n) old)))) same
            ∙ ap (λ (r : List ℕ). take j old ++ (v ∷ (r ++ drop (suc n) old))) (sym (slice-cons j n old 0 lt (omega arith)));
      }

pub moved_step : (old : List ℕ) (n k j t : ℕ) (xs : List ℕ) → k ≡ suc j → t ≡ suc j → k ≤ n → n < length old → Moved old n k xs → Moved old n j (set xs t (get_or xs j 0))
moved_step old n k j t xs e et le room m = rw et (moved_suc old n j xs (omega arith) room (rw e at m))

pub moved_end : (old : List ℕ) (n i v : ℕ) (xs : List ℕ) → i ≤ n → n < length old → Moved old n i xs → Inserted old (set xs i v) n i v
moved_end old n i v xs le room m =
    let whole : set xs i v ≡ insert_at i v (take n old) ++ drop (suc n) old =
    m.gap v
    ∙ ap (λ (l : List ℕ). l ++ (v ∷ (slice i n old ++ drop (suc n) old))) (sym (take-take i n old le))
    ∙ sym (append_assoc (take i (take n old)) (v ∷ slice i n old) (drop (suc n) old))
    ∙ ap (λ (l : List ℕ). l ++ drop (suc n) old) (sym (insert_at_split i v (take n old)))
    in
    let long : length (insert_at i v (take n old)) ≡ suc n = length_insert_at i v (take n old) ∙ ap suc (length-take-le n old (omega arith)) in
    record {
      count = long;
      live = ap (take (suc n)) whole ∙ take_at (insert_at i v (take n old)) (drop (suc n) old) (suc n) long;
      rest = ap (drop (suc n)) whole ∙ drop_at (insert_at i v (take n old)) (drop (suc n) old) (suc n) long;
      size = length-set xs i v ∙ m.size;
    }

-- The loop that moves down, at k: below k all is as it is to be, and from k on as it was.
pub record Closed (old : List ℕ) (n i k : ℕ) (now : List ℕ) : Type 0 where
  pub done : take k now ≡ take k (remove_at i (take n old))
  pub left : drop k now ≡ drop k old
  pub size : length now ≡ length old

pub closed_start : (old : List ℕ) (n i : ℕ) → i < n → Closed old n i i old
closed_start old n i h = record { done = sym (take_remove_at i (take n old) ∙ take-take i n old (omega arith)); left = refl; size = refl }

module _ (old : List ℕ) (n i k : ℕ) (xs : List ℕ) (lo : i ≤ k) (lt : suc k < n) (room : n ≤ length old) (m : Closed old n i k xs) where
  next : get_or xs (suc k) 0 ≡ get_or (remove_at i (take n old)) k 0
  next =
      ap (λ (j : ℕ). get_or xs j 0) (sym (add-one k))
      ∙ sym (get_or-drop k xs 1 0)
      ∙ ap (λ (l : List ℕ). get_or l 1 0) m.left
      ∙ get_or-drop k old 1 0
      ∙ ap (λ (j : ℕ). get_or old j 0) (add-one k)
      ∙ sym (get_or-take n old (suc k) 0 lt)
      ∙ sym (getD_remove_at 0 i k (take n old) lo)

  long : suc (length (remove_at i (take n old))) ≡ n
  long =
      let e : length (take n old) ≡ n = length-take-le n old room in
      length_remove_at i (take n old) (omega arith) ∙ e

  pub closed_suc : Closed old n i (suc k) (set xs k (get_or xs (suc k) 0))
  closed_suc =
      let size : length xs ≡ length old = m.size in
      record {
        done =
            take-suc-set xs k (get_or xs (suc k) 0) (omega arith)
            ∙ ap₂ (λ (l : List ℕ) (v : ℕ). l ++ (v ∷ [])) m.done next
            ∙ sym (take-suc (remove_at i (take n old)) k 0 (omega (arith, long)));
        left =
            drop-set-lt (suc k) xs k (get_or xs (suc k) 0) (omega arith)
            ∙ ap (λ (j : ℕ). drop j xs) (sym (add-one k))
            ∙ sym (drop-drop 1 k xs)
            ∙ ap (drop 1) m.left
            ∙ drop-drop 1 k old
            ∙ ap (λ (j : ℕ). drop j old) (add-one k);
        size = length-set xs k (get_or xs (suc k) 0) ∙ size;
      }

pub closed_step : (old : List ℕ) (n i k j : ℕ) (xs : List ℕ) → j ≡ suc k → i ≤ k → j < n → n ≤ length old → Closed old n i k xs → Closed old n i j (set xs k (get_or xs j 0))
closed_step old n i k j xs e lo lt room m = rw e (closed_suc old n i k xs lo (omega arith) room m)

closed_last : (old : List ℕ) (n i k : ℕ) (xs : List ℕ) → n ≡ suc k → i < n → n ≤ length old → Closed old n i k xs → Removed old (set xs k 0) n i k
closed_last old n i k xs e lt room m =
    let size : length xs ≡ length old = m.size in
    let part : length (take n old) ≡ n = length-take-le n old room in
    let long : suc (length (remove_at i (take n old))) ≡ length (take n old) = length_remove_at i (take n old) (omega arith) in
    record {
      count = omega arith;
      live = take-set-le k xs k 0 (omega arith) ∙ m.done ∙ take_all k (remove_at i (take n old)) (omega arith);
      rest = drop-cons (set xs k 0) k 0 (rw (length-set xs k 0) (omega arith)) ∙ ap₂ (λ (v : ℕ) (l : List ℕ). v ∷ l) (get_or-set_same xs k 0 0 (omega arith)) (drop-set-lt (suc k) xs k 0 (omega arith) ∙ past);
      size = length-set xs k 0 ∙ size;
    }
  where
    past : drop (suc k) xs ≡ drop n old
    past =
        let e' : k + 1 ≡ suc k = add-one k in
        rw (e, ← e') (sym (drop-drop 1 k xs) ∙ ap (drop 1) m.left ∙ drop-drop 1 k old)

pub closed_end : (old : List ℕ) (n i k m : ℕ) (xs : List ℕ) → k ≡ m → n ≡ suc m → i < n → n ≤ length old → Closed old n i k xs → Removed old (set xs m 0) n i m
closed_end old n i k m xs same e lt room c = closed_last old n i m xs e lt room (rw same at c)
