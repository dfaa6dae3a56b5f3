-- The rows of a map as rows of the rules: each operation on the one is the same on the other.
use mathlib.Core.Path.{◌≡◌, refl, ap}
use mathlib.Core.List.{List, [], ◌∷◌, map}
use mathlib.Core.Bool.{Bool, true, false}
use Prim.Native.Nat.{ℕ, suc}
use lib.Dec.{ltb, eqb, leb}
use lib.ListN.{length}
use Rattle.std.specs.Prelude.{Result, Ok, Err}
use Rattle.rules.specs.Choice.{if, limited, ok, fault, any}
use Rattle.rules.specs.Ordered.{put, has, lower, first, last, Rising, Above}
use Rattle.faults.specs.declared.Fault.{Fault}
use Rattle.faults.specs.Number.{number_of}
use Rattle.faults.specs.Outcome.{outcome}

-- rows told apart by a number, and by the same number of what each stands for
module _ {A B : Type 0} (f : A → B) (key : A → ℕ) (start : B → ℕ) (same : (x : A) → start (f x) ≡ key x) where
  pub put_rows : (a : A) (l : List A) → map f (put key a l) ≡ put start (f a) (map f l)
  unfolding if
  put_rows a [] = refl
  put_rows a (x ∷ l) = rw (same x, same a) (go (ltb (key x) (key a)) (eqb (key x) (key a)) (put_rows a l))
    where
      go : (b c : Bool) → map f (put key a l) ≡ put start (f a) (map f l) → map f (if b (x ∷ put key a l) (if c (a ∷ l) (a ∷ x ∷ l))) ≡ if b (f x ∷ put start (f a) (map f l)) (if c (f a ∷ map f l) (f a ∷ f x ∷ map f l))
      go true c e = ap (λ r. f x ∷ r) e
      go false true e = refl
      go false false e = refl

  pub has_rows : (k : ℕ) (l : List A) → has key k l ≡ has start k (map f l)
  has_rows k [] = refl
  has_rows k (x ∷ l) = rw (same x) (ap (λ r. if (ltb (key x) k) r (eqb (key x) k)) (has_rows k l))

  pub lower_rows : (k : ℕ) (d : A) (l : List A) → f (lower key k d l) ≡ lower start k (f d) (map f l)
  unfolding if
  lower_rows k d [] = refl
  lower_rows k d (x ∷ l) = rw (same x) (go (ltb (key x) k) (lower_rows k x l))
    where
      go : (b : Bool) → f (lower key k x l) ≡ lower start k (f x) (map f l) → f (if b (lower key k x l) d) ≡ if b (lower start k (f x) (map f l)) (f d)
      go true e = e
      go false e = refl

  pub rising_rows : (l : List A) → Rising key l → Rising start (map f l)
  rising_rows [] r = tt
  rising_rows (x ∷ l) r = (above x l r.0, rising_rows l r.1)
    where
      above : (x : A) (l : List A) → Above key (key x) l → Above start (start (f x)) (map f l)
      above x [] h = tt
      above x (y ∷ l) h = rw (same x, same y) h

module _ {A B : Type 0} (f : A → B) where
  pub length_rows : (l : List A) → length (map f l) ≡ length l
  length_rows [] = refl
  length_rows (x ∷ l) = ap suc (length_rows l)

  pub first_rows : (d : A) (l : List A) → f (first d l) ≡ first (f d) (map f l)
  first_rows d [] = refl
  first_rows d (x ∷ l) = refl

  pub last_rows : (d : A) (l : List A) → f (last d l) ≡ last (f d) (map f l)
  last_rows d [] = refl
  last_rows d (x ∷ l) = last_rows x l

  pub any_rows : (p : A → Bool) (q : B → Bool) → ((x : A) → p x ≡ q (f x)) → (l : List A) → any p l ≡ any q (map f l)
  any_rows p q e [] = refl
  any_rows p q e (x ∷ l) = rw (e x, any_rows p q e l)

  -- a change of the rows within their limit
  pub outcome_rows : {X : Type 0} (n : ℕ) (m l : List A) (r : Result X Fault) → outcome m r ≡ limited n l → outcome (map f m) r ≡ limited n (map f l)
  unfolding limited if
  outcome_rows {X} n m l r e = rw (length_rows l) (go (leb (length l) n) r e)
    where
      go : (b : Bool) (r : Result X Fault) → outcome m r ≡ if b (ok l) (fault 4) → outcome (map f m) r ≡ if b (ok (map f l)) (fault 4)
      go true (Ok u) e = let same : m ≡ l = cc in ap (λ x. ok (map f x)) same
      go true (Err x) e = cc
      go false (Ok u) e = cc
      go false (Err x) e = let same : number_of x ≡ 4 = cc in ap fault same
