-- What holds of the rows of a list or a table, and of the row with a key.
use Prim.Native.Nat.{ℕ, ◌≤◌, ◌<◌}
use mathlib.Core.Path.{◌≡◌, refl, sym, ◌∙◌}
use mathlib.Core.Bool.{Bool, true, false, false≢true}
use mathlib.Core.List.{List, [], ◌∷◌, ◌++◌}
use mathlib.Core.Logic.{◌⊎◌, inl, inr}
use native.Mathlib.Omega.{arith}
use lib.Dec.{ltb, eqb}
use borrow.Author.Tests.{ltb-true, eqb-true, le-ltb, lt-ltb, eq-eqb}
use Rattle.rules.specs.Choice.{if, by_if, if_true, if_false, filter}
use Rattle.rules.specs.Ordered.{self, put, without, has, lower, upper, last, first, Rising, Above}

abbrev pub All : {A : Type 0} → (A → Type 0) → List A → Type 0
All P [] = Unit {0}
All P (x ∷ l) = P x × All P l

pub all_map : {A : Type 0} {P Q : A → Type 0} (l : List A) → ((x : A) → P x → Q x) → All P l → All Q l
all_map [] f p = tt
all_map (x ∷ l) f p = (f x p.0, all_map l f p.1)

pub all_zip : {A : Type 0} {P Q R : A → Type 0} (l : List A) → ((x : A) → P x → Q x → R x) → All P l → All Q l → All R l
all_zip [] f p q = tt
all_zip (x ∷ l) f p q = (f x p.0 q.0, all_zip l f p.1 q.1)

pub all_of : {A : Type 0} {P : A → Type 0} (l : List A) → ((x : A) → P x) → All P l
all_of [] f = tt
all_of (x ∷ l) f = (f x, all_of l f)

pub all_swap : {A B : Type 0} (R : A → B → Type 0) (l : List A) (m : List B) → All (λ x. All (R x) m) l → All (λ y. All (λ x. R x y) l) m
all_swap R [] m p = all_of m (λ y. tt)
all_swap R (x ∷ l) m p = all_zip m (λ y a b. (a, b)) p.0 (all_swap R l m p.1)

pub all_append : {A : Type 0} (P : A → Type 0) (l m : List A) → All P l → All P m → All P (l ++ m)
all_append P [] m p q = q
all_append P (x ∷ l) m p q = (p.0, all_append P l m p.1 q)

pub all_filter : {A : Type 0} (P : A → Type 0) (p : A → Bool) (l : List A) → All P l → All P (filter p l)
all_filter P p [] h = tt
all_filter P p (x ∷ l) h =
    by_if (All P) (p x) {x = x ∷ filter p l} {y = filter p l} (λ _. (h.0, all_filter P p l h.1)) (λ _. all_filter P p l h.1)

-- ---- what holds of all rows, after each operation

pub all_put : {A : Type 0} (key : A → ℕ) (P : A → Type 0) (a : A) (l : List A) → P a → All P l → All P (put key a l)
all_put key P a [] p q = (p, tt)
all_put key P a (x ∷ l) p q =
    by_if (All P) (ltb (key x) (key a)) {x = x ∷ put key a l} {y = if (eqb (key x) (key a)) (a ∷ l) (a ∷ x ∷ l)}
    (λ _. (q.0, all_put key P a l p q.1))
    (λ _. by_if (All P) (eqb (key x) (key a)) {x = a ∷ l} {y = a ∷ x ∷ l} (λ _. (p, q.1)) (λ _. (p, q)))

pub all_without : {A : Type 0} (key : A → ℕ) (P : A → Type 0) (k : ℕ) (l : List A) → All P l → All P (without key k l)
all_without key P k [] q = tt
all_without key P k (x ∷ l) q =
    by_if (All P) (ltb (key x) k) {x = x ∷ without key k l} {y = if (eqb (key x) k) l (x ∷ l)}
    (λ _. (q.0, all_without key P k l q.1))
    (λ _. by_if (All P) (eqb (key x) k) {x = l} {y = x ∷ l} (λ _. q.1) (λ _. q))

pub upper_holds : {A : Type 0} (key : A → ℕ) (P : A → Type 0) (k : ℕ) (d : A) (l : List A) → P d → All P l → P (upper key k d l)
upper_holds key P k d [] p q = p
upper_holds key P k d (x ∷ l) p q = by_if P (ltb (key x) k) {x = upper key k d l} {y = x} (λ _. upper_holds key P k d l p q.1) (λ _. q.0)

pub lower_holds : {A : Type 0} (key : A → ℕ) (P Q : A → Type 0) (k : ℕ) (d : A) (l : List A) → P d → ((x : A) → Q x → key x < k → P x) → All Q l → P (lower key k d l)
lower_holds key P Q k d [] p f q = p
lower_holds key P Q k d (x ∷ l) p f q =
    by_if P (ltb (key x) k) {x = lower key k x l} {y = d} (λ h. lower_holds key P Q k x l (f x q.0 (ltb-true _ _ h)) f q.1) (λ _. p)

pub last_holds : {A : Type 0} (P : A → Type 0) (d : A) (l : List A) → P d → All P l → P (last d l)
last_holds P d [] p q = p
last_holds P d (x ∷ l) p q = last_holds P x l q.0 q.1

-- ---- a row with a key

module _ {A : Type 0} (key : A → ℕ) where
  abbrev pub Among : ℕ → List A → Type 0
  Among k [] = ⊥
  Among k (x ∷ l) = (key x ≡ k) ⊎ Among k l

  pub among_put : (k : ℕ) (a : A) (l : List A) → Among k l → Among k (put key a l)
  among_put k a [] h = absurd h
  among_put k a (x ∷ l) h =
      by_if (Among k) (ltb (key x) (key a)) {x = x ∷ put key a l} {y = if (eqb (key x) (key a)) (a ∷ l) (a ∷ x ∷ l)}
      (λ _. further h (among_put k a l))
      (λ _. by_if (Among k) (eqb (key x) (key a)) {x = a ∷ l} {y = a ∷ x ∷ l} (λ q. instead (eqb-true _ _ q) h) (λ _. inr h))
    where
      further : Among k (x ∷ l) → (Among k l → Among k (put key a l)) → Among k (x ∷ put key a l)
      further (inl e) f = inl e
      further (inr m) f = inr (f m)

      instead : key x ≡ key a → Among k (x ∷ l) → Among k (a ∷ l)
      instead q (inl e) = inl (sym q ∙ e)
      instead q (inr m) = inr m

  pub among_self : (a : A) (l : List A) → Among (key a) (put key a l)
  among_self a [] = inl refl
  among_self a (x ∷ l) =
      by_if (Among (key a)) (ltb (key x) (key a)) {x = x ∷ put key a l} {y = if (eqb (key x) (key a)) (a ∷ l) (a ∷ x ∷ l)}
      (λ _. inr (among_self a l))
      (λ _. by_if (Among (key a)) (eqb (key x) (key a)) {x = a ∷ l} {y = a ∷ x ∷ l} (λ _. inl refl) (λ _. inl refl))

  pub has_among : (k : ℕ) (l : List A) → has key k l ≡ true → Among k l
  unfolding if
  has_among k [] h = absurd (false≢true h)
  has_among k (x ∷ l) h = by (ltb (key x) k) (eqb (key x) k) refl (has_among k l) h
    where
      by : (b c : Bool) → eqb (key x) k ≡ c → (has key k l ≡ true → Among k l) → if b (has key k l) c ≡ true → Among k (x ∷ l)
      by true c e f q = inr (f q)
      by false c e f q = inl (eqb-true _ _ (e ∙ q))

  -- the last row's key is the highest
  pub among_last : (k : ℕ) (d : A) (l : List A) → Rising key l → Among k l → k ≤ key (last d l)
  among_last k d [] r h = absurd h
  among_last k d (x ∷ []) r (inl e) = omega arith
  among_last k d (x ∷ []) r (inr m) = absurd m
  among_last k d (x ∷ y ∷ l) r (inl e) =
      let q : key x < key y = r.0 in
      let p : key y ≤ key (last x (y ∷ l)) = among_last (key y) x (y ∷ l) r.1 (inl refl) in
      omega arith
  among_last k d (x ∷ y ∷ l) r (inr m) = among_last k x (y ∷ l) r.1 m

  -- where a row's key is among those of rows that are k or above, and rise, it is the first's
  pub among_first : (k : ℕ) (d : A) (l : List A) → Rising key l → All (λ x. k ≤ key x) l → Among k l → key (first d l) ≡ k
  among_first k d [] r p h = absurd h
  among_first k d (x ∷ l) r p (inl e) = e
  among_first k d (x ∷ []) r p (inr m) = absurd m
  among_first k d (x ∷ y ∷ l) r p (inr m) =
      let q : key x < key y = r.0 in
      let s : key y ≡ k = among_first k x (y ∷ l) r.1 p.1 m in
      let t : k ≤ key x = p.0 in
      absurd (omega arith)

-- the same in a table that rises
module _ {A : Type 0} (key : A → ℕ) where
  pub among_above : (k : ℕ) (x : A) (l : List A) → Above key (key x) l → Rising key l → Among key k l → key x < k
  among_above k x [] a r h = absurd h
  among_above k x (y ∷ l) a r (inl e) = omega arith
  among_above k x (y ∷ l) a r (inr m) = let q : key y < k = among_above k y l r.0 r.1 m in omega arith

  pub upper_at : (k : ℕ) (d : A) (l : List A) → Rising key l → Among key k l → key (upper key k d l) ≡ k
  upper_at k d [] r h = absurd h
  upper_at k d (x ∷ l) r (inl e) = rw (if_false (le-ltb (key x) k (omega arith)) (upper key k d l) x) e
  upper_at k d (x ∷ l) r (inr m) = rw (if_true (lt-ltb (key x) k (among_above k x l r.0 r.1 m)) (upper key k d l) x) (upper_at k d l r.1 m)

  pub among_has : (k : ℕ) (l : List A) → Rising key l → Among key k l → has key k l ≡ true
  among_has k [] r h = absurd h
  among_has k (x ∷ l) r (inl e) = rw (if_false (le-ltb (key x) k (omega arith)) (has key k l) (eqb (key x) k)) (eq-eqb _ _ e)
  among_has k (x ∷ l) r (inr m) = rw (if_true (lt-ltb (key x) k (among_above k x l r.0 r.1 m)) (has key k l) (eqb (key x) k)) (among_has k l r.1 m)

pub among_put_cases : {A : Type 0} (key : A → ℕ) (k : ℕ) (a : A) (l : List A) → Among key k (put key a l) → (key a ≡ k) ⊎ Among key k l
unfolding if
among_put_cases key k a [] (inl e) = inl e
among_put_cases key k a [] (inr m) = absurd m
among_put_cases key k a (x ∷ l) h = by (ltb (key x) (key a)) (eqb (key x) (key a)) (among_put_cases key k a l) h
  where
    by : (t u : Bool) → (Among key k (put key a l) → (key a ≡ k) ⊎ Among key k l) → Among key k (if t (x ∷ put key a l) (if u (a ∷ l) (a ∷ x ∷ l))) → (key a ≡ k) ⊎ Among key k (x ∷ l)
    by true u f (inl e) = inr (inl e)
    by true u f (inr m) = later (f m)
      where
        later : (key a ≡ k) ⊎ Among key k l → (key a ≡ k) ⊎ Among key k (x ∷ l)
        later (inl e) = inl e
        later (inr m) = inr (inr m)
    by false true f (inl e) = inl e
    by false true f (inr m) = inr (inr m)
    by false false f (inl e) = inl e
    by false false f (inr m) = inr m

-- all rows are above what the first is above
pub all_above : {A : Type 0} (key : A → ℕ) (k : ℕ) (l : List A) → Above key k l → Rising key l → All (λ y. k < key y) l
all_above key k [] a r = tt
all_above key k (y ∷ l) a r = (a, all_map l (λ z (h : key y < key z). omega arith) (all_above key (key y) l r.0 r.1))

pub above_all : (k : ℕ) (l : List ℕ) → All (λ j. k < j) l → Above self k l
above_all k [] a = tt
above_all k (j ∷ l) a = a.0

-- what is above more is above less
pub above_more : {A : Type 0} (key : A → ℕ) (j k : ℕ) (l : List A) → j < k → Above key k l → Above key j l
above_more key j k [] h a = tt
above_more key j k (x ∷ l) h a = omega arith
