-- What std's halving and its test of neighbours come to, over rows that are read. Assumes nothing.
use Prim.Native.Nat.{ℕ, zero, suc, ◌+◌, ◌<◌, ◌≤◌}
use mathlib.Core.Path.{◌≡◌, refl, sym, ◌∙◌}
use mathlib.Core.Bool.{Bool, true, false, and-false}
use mathlib.Core.List.{List, [], ◌∷◌, map}
use mathlib.Core.Logic.{⊎_elim}
use native.Mathlib.Nat.{eq-or-lt_of_le}
use native.Mathlib.Omega.{arith}
use lib.Dec.{leb, ltb}
use lib.ListN.{length, get_or, length-map}
use borrow.Author.Tests.{ltb-true, ltb-false, leb-true, leb-false, lt-ltb, le-ltb}
use Rattle.std.proofs.lemmas.List.{get_or-map}
use Rattle.std.specs.List.{IsAllAdjacentAnswer}
use Rattle.std.specs.List.Sorted.{IsPartitionedBy, IsPartitionPoint}
use Rattle.rules.specs.Check as rules
use Rattle.rules.specs.Ordered.{self, rank, Rising}
use Rattle.rules.proofs.Ordered.{rank_is, rising_at}

-- p is whether a row's key is below q
module _ {A : Type 0} (key : A → ℕ) (xs : List A) (q : ℕ) (p : A → Bool) (below : (x : A) → p x ≡ ltb (key x) q) where
  key_at : (i : ℕ) (d : A) → i < length xs → get_or (map key xs) i 0 ≡ key (get_or xs i d)
  key_at i d h = get_or-map key xs i d 0 h

  -- no row that passes stands behind one that fails, where the keys rise
  pub passes_first : Rising self (map key xs) → IsPartitionedBy p xs
  passes_first rise i j d h k t =
      ⊎_elim
      (λ (e : i ≡ j). rw e t)
      (λ (l : i < j).
      let up : get_or (map key xs) i 0 < get_or (map key xs) j 0 = rising_at self 0 (map key xs) i j rise l (rw length-map k) in
      let low : key (get_or xs j d) < q = ltb-true _ _ (sym (below (get_or xs j d)) ∙ t) in
      below (get_or xs i d) ∙ lt-ltb _ _ (omega (arith, key_at i d (omega arith), key_at j d k)))
      (eq-or-lt_of_le h)

  pub rank_point : (d : A) (i : ℕ) → i ≤ length xs → IsPartitionPoint (λ y. p y ≡ true) (λ y. p y ≡ false) xs i → i ≡ rank self q (map key xs)
  rank_point d i h e =
      sym
      (rank_is self 0 q (map key xs) i (rw length-map h)
      (λ k b. let t : key (get_or xs k d) < q = ltb-true _ _ (sym (below (get_or xs k d)) ∙ e.0 k d (omega arith) b) in omega (arith, key_at k d (omega arith)))
      (λ b.
      let c : i < length xs = rw length-map at b in
      let t : q ≤ key (get_or xs i d) = ltb-false _ _ (sym (below (get_or xs i d)) ∙ e.1 i d (omega arith) c) in
      omega (arith, key_at i d c)))

pub leb_next : (x a : ℕ) → leb x a ≡ ltb x (a + 1)
leb_next x a = go (leb x a) refl
  where
    go : (b : Bool) → leb x a ≡ b → b ≡ ltb x (a + 1)
    go true e = let h : x ≤ a = leb-true x a e in sym (lt-ltb x (a + 1) (omega arith))
    go false e = let h : a < x = leb-false x a e in sym (le-ltb x (a + 1) (omega arith))

-- a test of each row and the next
pub chained_rows : {A B : Type 0} (p : B → B → Bool) (read : A → B) (r : Bool) (l : List A) → IsAllAdjacentAnswer (λ x y b. b ≡ p (read x) (read y)) l r → r ≡ rules.chained p (map read l)
chained_rows p read true [] h = refl
chained_rows p read false [] h = absurd (omega (arith, h.1))
chained_rows p read true (x ∷ []) h = refl
chained_rows p read false (x ∷ []) h = absurd (omega (arith, h.1))
chained_rows p read true (x ∷ y ∷ l) h =
    let e : true ≡ p (read x) (read y) = h 0 x (omega arith) in
    let f : true ≡ rules.chained p (map read (y ∷ l)) = chained_rows p read true (y ∷ l) (λ k d b. let s : suc k + 1 ≡ suc (k + 1) = omega arith in rw s at (h (suc k) d (omega arith))) in
    rw (← e, ← f) refl
chained_rows p read false (x ∷ y ∷ l) (zero, b, f) = let e : false ≡ p (read x) (read y) = f x in rw (← e) refl
chained_rows p read false (x ∷ y ∷ l) (suc k, b, f) =
    let s : suc k + 1 ≡ suc (k + 1) = omega arith in
    let e : false ≡ rules.chained p (map read (y ∷ l)) = chained_rows p read false (y ∷ l) (k, omega arith, λ d. rw s at (f d)) in
    rw (← e) (sym (and-false (p (read x) (read y))))
