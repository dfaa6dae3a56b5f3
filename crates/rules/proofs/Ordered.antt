-- The laws of `specs/Ordered.antt`: each operation by its place. Over rows of any type.
use mathlib.Core.Path.{◌≡◌, refl, sym, ap, ◌∙◌}
use mathlib.Core.List.{List, [], ◌∷◌, ◌++◌, map}
use mathlib.Core.Bool.{Bool, true, false}
use Prim.Native.Nat.{ℕ, zero, suc, ◌<◌, ◌≤◌, zero-le, suc-le-suc}
use native.Mathlib.Nat.{le_of_suc-le-suc, not-suc-le-zero}
use native.Mathlib.Omega.{arith}
use lib.Dec.{ltb, eqb}
use lib.ListN.{length, take, drop, get_or, set, length-set}
use lib.Seq.{set-get_or}
use borrow.Author.Tests.{lt-ltb, le-ltb, ltb-true, ltb-false, eqb-true, eqb-false, eq-eqb}
use Rattle.rules.specs.Choice.{if}
use Rattle.rules.specs.Ordered.{self, insert_at, remove_at, without, rank, has, put, lower, Above, Rising, first, last}

module _ {A : Type 0} where
  pub insert_at_split : (i : ℕ) (v : A) (l : List A) → insert_at i v l ≡ take i l ++ (v ∷ drop i l)
  insert_at_split zero v l = refl
  insert_at_split (suc i) v [] = refl
  insert_at_split (suc i) v (x ∷ l) = ap (λ (r : List A). x ∷ r) (insert_at_split i v l)

  pub length_insert_at : (i : ℕ) (v : A) (l : List A) → length (insert_at i v l) ≡ suc (length l)
  length_insert_at zero v l = refl
  length_insert_at (suc i) v [] = refl
  length_insert_at (suc i) v (x ∷ l) = ap suc (length_insert_at i v l)

module _ {A : Type 0} (key : A → ℕ) where
  pub rank_is : (d : A) (q : ℕ) (l : List A) (r : ℕ) → r ≤ length l → ((k : ℕ) → k < r → key (get_or l k d) < q) → (r < length l → q ≤ key (get_or l r d)) → rank key q l ≡ r
  unfolding if
  rank_is d q [] r h below stop = omega arith
  rank_is d q (x ∷ l) zero h below stop = rw (le-ltb (key x) q (stop (omega arith)))
  rank_is d q (x ∷ l) (suc r) h below stop = rw (lt-ltb (key x) q (below 0 (omega arith))) (ap suc (rank_is d q l r (le_of_suc-le-suc h) (λ k b. below (suc k) (suc-le-suc b)) (λ b. stop (suc-le-suc b))))

  pub rank_le : (q : ℕ) (l : List A) → rank key q l ≤ length l
  unfolding if
  rank_le q [] = zero-le
  rank_le q (x ∷ l) = go (ltb (key x) q) (rank_le q l)
    where
      go : (t : Bool) → rank key q l ≤ length l → if t (suc (rank key q l)) 0 ≤ suc (length l)
      go true h = suc-le-suc h
      go false h = zero-le

  -- whether the key is there, by the row at its rank
  pub has_is : (d : A) (q : ℕ) (l : List A) → rank key q l < length l → has key q l ≡ eqb (key (get_or l (rank key q l) d)) q
  unfolding if
  has_is d q [] h = absurd (not-suc-le-zero h)
  has_is d q (x ∷ l) h = go (ltb (key x) q) h (has_is d q l)
    where
      go : (t : Bool) → if t (suc (rank key q l)) 0 < suc (length l) → (rank key q l < length l → has key q l ≡ eqb (key (get_or l (rank key q l) d)) q) → if t (has key q l) (eqb (key x) q) ≡ eqb (key (get_or (x ∷ l) (if t (suc (rank key q l)) 0) d)) q
      go true h ih = ih (le_of_suc-le-suc h)
      go false h ih = refl

  pub has_not : (q : ℕ) (l : List A) → length l ≤ rank key q l → has key q l ≡ false
  unfolding if
  has_not q [] h = refl
  has_not q (x ∷ l) h = go (ltb (key x) q) h (has_not q l)
    where
      go : (t : Bool) → suc (length l) ≤ if t (suc (rank key q l)) 0 → (length l ≤ rank key q l → has key q l ≡ false) → if t (has key q l) (eqb (key x) q) ≡ false
      go true h ih = ih (le_of_suc-le-suc h)
      go false h ih = absurd (not-suc-le-zero h)

  -- a key that is there is below the table's end
  pub has_below : (q : ℕ) (l : List A) → has key q l ≡ true → rank key q l < length l
  unfolding if
  has_below q [] h = let z : ◌≡◌ {A = Bool} false true = h in absurd (no z)
    where
      no : false ≡ true → ⊥
      no e = let z : ◌≡◌ {A = ℕ} 0 1 = cc in omega arith
  has_below q (x ∷ l) h = go (ltb (key x) q) h (has_below q l)
    where
      go : (t : Bool) → if t (has key q l) (eqb (key x) q) ≡ true → (has key q l ≡ true → rank key q l < length l) → if t (suc (rank key q l)) 0 < suc (length l)
      go true h ih = suc-le-suc (ih h)
      go false h ih = suc-le-suc zero-le

  pub put_new : (a : A) (l : List A) → has key (key a) l ≡ false → put key a l ≡ insert_at (rank key (key a) l) a l
  unfolding if
  put_new a [] h = refl
  put_new a (x ∷ l) h = go (ltb (key x) (key a)) h (put_new a l)
    where
      go : (t : Bool) → if t (has key (key a) l) (eqb (key x) (key a)) ≡ false → (has key (key a) l ≡ false → put key a l ≡ insert_at (rank key (key a) l) a l) → if t (x ∷ put key a l) (if (eqb (key x) (key a)) (a ∷ l) (a ∷ x ∷ l)) ≡ insert_at (if t (suc (rank key (key a) l)) 0) a (x ∷ l)
      go true h ih = ap (λ (r : List A). x ∷ r) (ih h)
      go false h ih = rw h

  pub put_old : (a : A) (l : List A) → has key (key a) l ≡ true → put key a l ≡ set l (rank key (key a) l) a
  unfolding if
  put_old a [] h = let z : ◌≡◌ {A = ℕ} 0 1 = cc h in absurd (omega arith)
  put_old a (x ∷ l) h = go (ltb (key x) (key a)) h (put_old a l)
    where
      go : (t : Bool) → if t (has key (key a) l) (eqb (key x) (key a)) ≡ true → (has key (key a) l ≡ true → put key a l ≡ set l (rank key (key a) l) a) → if t (x ∷ put key a l) (if (eqb (key x) (key a)) (a ∷ l) (a ∷ x ∷ l)) ≡ set (x ∷ l) (if t (suc (rank key (key a) l)) 0) a
      go true h ih = ap (λ (r : List A). x ∷ r) (ih h)
      go false h ih = rw h

  -- the nearest lower row stands just before the rank
  pub lower_is : (e d : A) (q : ℕ) (l : List A) → lower key q d l ≡ get_or (d ∷ l) (rank key q l) e
  unfolding if
  lower_is e d q [] = refl
  lower_is e d q (x ∷ l) = go (ltb (key x) q) (lower_is e x q l)
    where
      go : (t : Bool) → lower key q x l ≡ get_or (x ∷ l) (rank key q l) e → if t (lower key q x l) d ≡ get_or (d ∷ x ∷ l) (if t (suc (rank key q l)) 0) e
      go true ih = ih
      go false ih = refl

  pub without_is : (q : ℕ) (l : List A) → has key q l ≡ true → without key q l ≡ remove_at (rank key q l) l
  unfolding if
  without_is q [] h = let z : ◌≡◌ {A = ℕ} 0 1 = cc h in absurd (omega arith)
  without_is q (x ∷ l) h = go (ltb (key x) q) h (without_is q l)
    where
      go : (t : Bool) → if t (has key q l) (eqb (key x) q) ≡ true → (has key q l ≡ true → without key q l ≡ remove_at (rank key q l) l) → if t (x ∷ without key q l) (if (eqb (key x) q) l (x ∷ l)) ≡ remove_at (if t (suc (rank key q l)) 0) (x ∷ l)
      go true h ih = ap (λ (r : List A). x ∷ r) (ih h)
      go false h ih = rw h

  pub without_not : (q : ℕ) (l : List A) → has key q l ≡ false → without key q l ≡ l
  unfolding if
  without_not q [] h = refl
  without_not q (x ∷ l) h = go (ltb (key x) q) h (without_not q l)
    where
      go : (t : Bool) → if t (has key q l) (eqb (key x) q) ≡ false → (has key q l ≡ false → without key q l ≡ l) → if t (x ∷ without key q l) (if (eqb (key x) q) l (x ∷ l)) ≡ x ∷ l
      go true h ih = ap (λ (r : List A). x ∷ r) (ih h)
      go false h ih = rw h

  -- the row at the rank of a key that is there has that key
  pub has_at : (d : A) (q : ℕ) (l : List A) → has key q l ≡ true → key (get_or l (rank key q l) d) ≡ q
  unfolding if
  has_at d q l h = eqb-true _ _ (sym (has_is d q l (has_below q l h)) ∙ h)

  -- a row that keeps its key changes no place
  pub rank_set : (d : A) (q : ℕ) (l : List A) (i : ℕ) (y : A) → key y ≡ key (get_or l i d) → rank key q (set l i y) ≡ rank key q l
  unfolding if
  rank_set d q [] i y e = refl
  rank_set d q (x ∷ l) zero y e = rw e
  rank_set d q (x ∷ l) (suc i) y e = ap (λ (r : ℕ). if (ltb (key x) q) (suc r) 0) (rank_set d q l i y e)

  pub has_set : (d : A) (q : ℕ) (l : List A) (i : ℕ) (y : A) → key y ≡ key (get_or l i d) → has key q (set l i y) ≡ has key q l
  unfolding if
  has_set d q [] i y e = refl
  has_set d q (x ∷ l) zero y e = rw e
  has_set d q (x ∷ l) (suc i) y e = ap (λ (r : Bool). if (ltb (key x) q) r (eqb (key x) q)) (has_set d q l i y e)

  -- rising, by index
  pub above_at : (d : A) (k : ℕ) (l : List A) (j : ℕ) → Above key k l → Rising key l → j < length l → k < key (get_or l j d)
  above_at d k [] j a r h = absurd (not-suc-le-zero h)
  above_at d k (x ∷ l) zero a r h = a
  above_at d k (x ∷ l) (suc j) a r h = let far : key x < key (get_or l j d) = above_at d (key x) l j r.0 r.1 (le_of_suc-le-suc h) in omega arith

  pub rising_at : (d : A) (l : List A) (i j : ℕ) → Rising key l → i < j → j < length l → key (get_or l i d) < key (get_or l j d)
  rising_at d [] i j r h h' = absurd (not-suc-le-zero h')
  rising_at d (x ∷ l) i zero r h h' = absurd (not-suc-le-zero h)
  rising_at d (x ∷ l) zero (suc j) r h h' = above_at d (key x) l j r.0 r.1 (le_of_suc-le-suc h')
  rising_at d (x ∷ l) (suc i) (suc j) r h h' = rising_at d l i j r.1 (le_of_suc-le-suc h) (le_of_suc-le-suc h')

  -- a row is put over the row at r that has its key
  pub put_at : (d a : A) (l : List A) (r : ℕ) → Rising key l → r < length l → key a ≡ key (get_or l r d) → put key a l ≡ set l r a
  unfolding if
  put_at d a l r rise h e =
      let at : rank key (key a) l ≡ r = rank_is d (key a) l r (omega arith) (λ k b. rw e (rising_at d l k r rise b h)) (λ _. omega arith) in
      let there : has key (key a) l ≡ true = has_is d (key a) l (rw at h) ∙ rw at (eq-eqb _ _ (sym e)) in
      rw (← at) (put_old a l there)

  put_above : (k : ℕ) (a : A) (l : List A) → k < key a → Above key k l → Above key k (put key a l)
  unfolding if
  put_above k a [] h ab = h
  put_above k a (x ∷ l) h ab = go (ltb (key x) (key a)) (eqb (key x) (key a))
    where
      go : (t u : Bool) → Above key k (if t (x ∷ put key a l) (if u (a ∷ l) (a ∷ x ∷ l)))
      go true u = ab
      go false true = h
      go false false = h

  pub put_rising : (a : A) (l : List A) → Rising key l → Rising key (put key a l)
  unfolding if
  put_rising a [] r = (tt, tt)
  put_rising a (x ∷ l) r = go (ltb (key x) (key a)) (eqb (key x) (key a)) refl refl (put_rising a l r.1)
    where
      go : (t u : Bool) → ltb (key x) (key a) ≡ t → eqb (key x) (key a) ≡ u → Rising key (put key a l) → Rising key (if t (x ∷ put key a l) (if u (a ∷ l) (a ∷ x ∷ l)))
      go true u et eu ih = (put_above (key x) a l (ltb-true _ _ et) r.0, ih)
      go false true et eu ih = let same : key x ≡ key a = eqb-true _ _ eu in (rw (← same) r.0, r.1)
      go false false et eu ih = let ne : key x ≡ key a → ⊥ = eqb-false _ _ eu in let ge : key a ≤ key x = ltb-false _ _ et in (omega arith, (r.0, r.1))

  above_more : (k m : ℕ) (l : List A) → k < m → Above key m l → Above key k l
  above_more k m [] h a = tt
  above_more k m (x ∷ l) h a = omega arith

  without_above : (k q : ℕ) (l : List A) → Above key k l → Rising key l → Above key k (without key q l)
  unfolding if
  without_above k q [] a r = tt
  without_above k q (x ∷ l) a r = go (ltb (key x) q) (eqb (key x) q)
    where
      go : (t u : Bool) → Above key k (if t (x ∷ without key q l) (if u l (x ∷ l)))
      go true u = a
      go false true = above_more k (key x) l a r.0
      go false false = a

  pub without_rising : (q : ℕ) (l : List A) → Rising key l → Rising key (without key q l)
  unfolding if
  without_rising q [] r = tt
  without_rising q (x ∷ l) r = go (ltb (key x) q) (eqb (key x) q) (without_rising q l r.1)
    where
      go : (t u : Bool) → Rising key (without key q l) → Rising key (if t (x ∷ without key q l) (if u l (x ∷ l)))
      go true u ih = (without_above (key x) q l r.0 r.1, ih)
      go false true ih = r.1
      go false false ih = (r.0, r.1)

-- how long a table is after a row is put in
module _ {A : Type 0} (key : A → ℕ) (a : A) (l : List A) where
  pub length_put_new : has key (key a) l ≡ false → length (put key a l) ≡ suc (length l)
  length_put_new h = ap length (put_new key a l h) ∙ length_insert_at (rank key (key a) l) a l

  pub length_put_old : has key (key a) l ≡ true → length (put key a l) ≡ length l
  length_put_old h = ap length (put_old key a l h) ∙ length-set l (rank key (key a) l) a

  pub length_put_le : length l ≤ length (put key a l)
  length_put_le = go (has key (key a) l) refl
    where
      go : (b : Bool) → has key (key a) l ≡ b → length l ≤ length (put key a l)
      go true h = omega (arith, length_put_old h)
      go false h = omega (arith, length_put_new h)

-- in a set, a key that is there is put over itself
pub put_held : (a : ℕ) (l : List ℕ) → has self a l ≡ true → put self a l ≡ l
unfolding if
put_held a l h =
    put_old self a l h
    ∙ ap (λ (v : ℕ). set l (rank self a l) v) (sym (has_at self 0 a l h))
    ∙ set-get_or l (rank self a l) 0

module _ {A : Type 0} where
  pub length_remove_at : (i : ℕ) (l : List A) → i < length l → suc (length (remove_at i l)) ≡ length l
  length_remove_at i [] h = absurd (not-suc-le-zero h)
  length_remove_at zero (x ∷ l) h = refl
  length_remove_at (suc i) (x ∷ l) h = ap suc (length_remove_at i l (le_of_suc-le-suc h))

  pub take_remove_at : (i : ℕ) (l : List A) → take i (remove_at i l) ≡ take i l
  take_remove_at zero l = refl
  take_remove_at (suc i) [] = refl
  take_remove_at (suc i) (x ∷ l) = ap (λ (r : List A). x ∷ r) (take_remove_at i l)

  pub getD_remove_at : (d : A) (i k : ℕ) (l : List A) → i ≤ k → get_or (remove_at i l) k d ≡ get_or l (suc k) d
  getD_remove_at d i k [] h = refl
  getD_remove_at d zero k (x ∷ l) h = refl
  getD_remove_at d (suc i) zero (x ∷ l) h = absurd (not-suc-le-zero h)
  getD_remove_at d (suc i) (suc k) (x ∷ l) h = getD_remove_at d i k l (le_of_suc-le-suc h)

-- a table by the list of its keys
module _ {A : Type 0} (key : A → ℕ) where
  pub rank_keys : (q : ℕ) (l : List A) → rank key q l ≡ rank self q (map key l)
  rank_keys q [] = refl
  rank_keys q (x ∷ l) = ap (λ (r : ℕ). if (ltb (key x) q) (suc r) 0) (rank_keys q l)

  pub has_keys : (q : ℕ) (l : List A) → has key q l ≡ has self q (map key l)
  has_keys q [] = refl
  has_keys q (x ∷ l) = ap (λ (r : Bool). if (ltb (key x) q) r (eqb (key x) q)) (has_keys q l)

  above_keys : (k : ℕ) (l : List A) → Above key k l → Above self k (map key l)
  above_keys k [] a = tt
  above_keys k (x ∷ l) a = a

  keys_above : (k : ℕ) (l : List A) → Above self k (map key l) → Above key k l
  keys_above k [] a = tt
  keys_above k (x ∷ l) a = a

  pub rising_keys : (l : List A) → Rising key l → Rising self (map key l)
  rising_keys [] r = tt
  rising_keys (x ∷ l) r = (above_keys (key x) l r.0, rising_keys l r.1)

  pub keys_rising : (l : List A) → Rising self (map key l) → Rising key l
  keys_rising [] r = tt
  keys_rising (x ∷ l) r = (keys_above (key x) l r.0, keys_rising l r.1)

module _ {A : Type 0} where
  -- the first and the last row, by index
  pub first_is : (d : A) (l : List A) → first d l ≡ get_or l 0 d
  first_is d [] = refl
  first_is d (x ∷ l) = refl

  pub last_is : (e d : A) (l : List A) → last d l ≡ get_or (d ∷ l) (length l) e
  last_is e d [] = refl
  last_is e d (x ∷ l) = last_is e x l
