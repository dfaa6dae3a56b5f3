-- Tables whose rows rise by a key: what each operation means, over a list of rows of any type. No array, no count.
use Rattle.std.specs.Prelude.{ℕ, zero, suc, ◌<◌, Bool, true, false, List, [], ◌∷◌, ltb, eqb}
use Rattle.rules.specs.Choice.{if}

-- a row that is its own key
abbrev pub self : ℕ → ℕ
self k = k

-- v put in before the row at index i
abbrev pub insert_at : {A : Type 0} → ℕ → A → List A → List A
insert_at zero v l = v ∷ l
insert_at (suc i) v [] = v ∷ []
insert_at (suc i) v (x ∷ l) = x ∷ insert_at i v l

-- without the row at index i
abbrev pub remove_at : {A : Type 0} → ℕ → List A → List A
remove_at i [] = []
remove_at zero (x ∷ l) = l
remove_at (suc i) (x ∷ l) = x ∷ remove_at i l

module _ {A : Type 0} (key : A → ℕ) where
  -- how many rows stand before the first whose key is k or more
  abbrev pub rank : ℕ → List A → ℕ
  rank k [] = 0
  rank k (x ∷ l) = if (ltb (key x) k) (suc (rank k l)) 0

  -- whether the first row whose key is k or more has the key k
  abbrev pub has : ℕ → List A → Bool
  has k [] = false
  has k (x ∷ l) = if (ltb (key x) k) (has k l) (eqb (key x) k)

  -- row a in its place, instead of the row with its key if there is one
  abbrev pub put : A → List A → List A
  put a [] = a ∷ []
  put a (x ∷ l) = if (ltb (key x) (key a)) (x ∷ put a l) (if (eqb (key x) (key a)) (a ∷ l) (a ∷ x ∷ l))

  -- without the row whose key is k, if there is one
  abbrev pub without : ℕ → List A → List A
  without k [] = []
  without k (x ∷ l) = if (ltb (key x) k) (x ∷ without k l) (if (eqb (key x) k) l (x ∷ l))

  -- the last row before the first whose key is k or more; d where there is none
  abbrev pub lower : ℕ → A → List A → A
  lower k d [] = d
  lower k d (x ∷ l) = if (ltb (key x) k) (lower k x l) d

  -- the first row whose key is k or more; d where there is none
  abbrev pub upper : ℕ → A → List A → A
  upper k d [] = d
  upper k d (x ∷ l) = if (ltb (key x) k) (upper k d l) x

  -- the rows of the others put in, one by one
  abbrev pub put_all : List A → List A → List A
  put_all [] l = l
  put_all (a ∷ more) l = put_all more (put a l)

  -- the first row's key, if there is one, is above k
  abbrev pub Above : ℕ → List A → Type 0
  Above k [] = Unit {0}
  Above k (x ∷ l) = k < key x

  -- each row's key is above the one before
  abbrev pub Rising : List A → Type 0
  Rising [] = Unit {0}
  Rising (x ∷ l) = Above (key x) l × Rising l

-- the last row; d where there is none
abbrev pub last : {A : Type 0} → A → List A → A
last d [] = d
last d (x ∷ l) = last x l

-- the first row; d where there is none
abbrev pub first : {A : Type 0} → A → List A → A
first d [] = d
first d (x ∷ l) = x

-- whether there is no row
abbrev pub empty : {A : Type 0} → List A → Bool
empty [] = true
empty (x ∷ l) = false
