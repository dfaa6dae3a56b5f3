-- What a search tells of a table whose rows rise, and what a change at that place makes of it. Over rows of any type.
use mathlib.Core.Path.{◌≡◌, refl, sym, ap, subst, ◌∙◌}
use mathlib.Core.List.{List, [], ◌∷◌, ◌++◌}
use mathlib.Core.Bool.{Bool, true, false, ◌||◌}
use Prim.Native.Nat.{ℕ, zero, suc, ◌-◌, ◌<◌, ◌≤◌}
use native.Mathlib.Omega.{arith}
use native.Mathlib.Decide.{dec_lt}
use lib.Dec.{ltb, eqb}
use lib.ListN.{length, take, drop, get_or, set, length-set}
use Rattle.std.proofs.Math.Seq.{take-append_seam}
use borrow.Author.Tests.{eq-eqb, ne_eqb, lt-leb, le-leb, ltb-true, ltb-false}
use Rattle.std.specs.Prelude.{Option, Some, None, Result, Ok, Err, slice_get, unwrap_or}
use Rattle.std.specs.Ordering.{nat_cmp, ordering_index, MatchOrdering}
use Rattle.std.specs.declared.cmp.Ordering.TheVariants.{Less, Equal, Greater}
use Rattle.std.specs.Option.{option_copied}
use Rattle.std.specs.Slice.{IsItemAt}
use Rattle.std.proofs.lemmas.Option.{slice_get_past, slice_get_read, get_or_from_slice_get}
use denote.Ref.{Bor}
use Rattle.std.specs.List as lists
use Rattle.std.specs.List.Sorted.{IsBinarySearchResult, IsNonDecreasingBy, IsPartitionPoint, IsSearchInRange}
use Rattle.std.proofs.lemmas.Cmp.{ranked}
use Rattle.std.proofs.lemmas.Bool.Decides.{nat_tests}
use Rattle.rules.specs.Choice.{if, if_true, if_false, by_if, limited, fault, ok, any}
use Rattle.rules.specs.Ordered.{self as own, rank, has, put, without, lower, upper, first, last, Rising, remove_at}
use Rattle.rules.proofs.Ordered.{insert_at_split, rank_is, rank_le, has_is, has_not, has_below, put_new, put_old, put_held, put_rising, rising_at, without_is, without_rising, length_put_new, length_put_old}
use Rattle.tables.specs.Places.{IsPlace, row_of, first_from, last_below}

orders : (x y : ℕ) → MatchOrdering (nat_cmp x y) (x < y) (x ≡ y) (y < x)
orders x y = ranked x y (nat_cmp x y) refl

same_key : (x y : ℕ) → nat_cmp x y ≡ Equal → x ≡ y
same_key x y e = subst (λ o. MatchOrdering o (x < y) (x ≡ y) (y < x)) e (orders x y)

less_key : (x y : ℕ) → nat_cmp x y ≡ Less → x < y
less_key x y e = subst (λ o. MatchOrdering o (x < y) (x ≡ y) (y < x)) e (orders x y)

greater_key : (x y : ℕ) → nat_cmp x y ≡ Greater → y < x
greater_key x y e = subst (λ o. MatchOrdering o (x < y) (x ≡ y) (y < x)) e (orders x y)

higher : (x a b : ℕ) → a ≤ b → ordering_index (nat_cmp a x) ≤ ordering_index (nat_cmp b x)
higher x a b le = grind (arith, nat_tests)

remove_at_split : {A : Type 0} → (i : ℕ) (l : List A) → remove_at i l ≡ take i l ++ drop (suc i) l
remove_at_split zero [] = refl
remove_at_split (suc i) [] = refl
remove_at_split zero (x ∷ l) = refl
remove_at_split (suc i) (x ∷ l) = ap (λ r. x ∷ r) (remove_at_split i l)

module _ {A : Type 0} (key : A → ℕ) where
  pub rising_le : (d : A) (l : List A) (i j : ℕ) → Rising key l → i ≤ j → j < length l → key (get_or l i d) ≤ key (get_or l j d)
  rising_le d l i j r h b = go (dec_lt i j)
    where
      go : Dec (i < j) → key (get_or l i d) ≤ key (get_or l j d)
      go (yes lt) = omega (arith, rising_at key d l i j r lt b)
      go (no ne) = let e : i ≡ j = omega arith in rw e (omega arith)

  placed : (d : A) (k i : ℕ) (l : List A) → Rising key l → i < length l → nat_cmp (key (get_or l i d)) k ≡ Equal → (i ≡ rank key k l) × (has key k l ≡ true)
  placed d k i l r h e =
      let same : key (get_or l i d) ≡ k = same_key _ _ e in
      let at : rank key k l ≡ i = rank_is key d k l i (omega arith) (λ j b. omega (arith, rising_at key d l j i r b h)) (λ _. omega arith) in
      (sym at, has_is key d k l (rw at h) ∙ rw at (eq-eqb _ _ same))

  missed : (d : A) (k i : ℕ) (l : List A) → Rising key l → i ≤ length l → (IsNonDecreasingBy (λ y. ordering_index (nat_cmp (key y) k)) l → IsPartitionPoint (λ y. nat_cmp (key y) k ≡ Less) (λ y. nat_cmp (key y) k ≡ Greater) l i) → (i ≡ rank key k l) × (has key k l ≡ false)
  missed d k i l r h f =
      let parts = f (λ a b e le lt. higher k (key (get_or l a e)) (key (get_or l b e)) (rising_le e l a b r le lt)) in
      let at : rank key k l ≡ i = rank_is key d k l i h (λ j b. less_key _ _ (parts.0 j d (omega arith) b)) (λ b. let up : k < key (get_or l i d) = greater_key _ _ (parts.1 i d (omega arith) b) in omega arith) in
      (sym at, absent at parts)
    where
      absent : rank key k l ≡ i → IsPartitionPoint (λ y. nat_cmp (key y) k ≡ Less) (λ y. nat_cmp (key y) k ≡ Greater) l i → has key k l ≡ false
      absent at parts = go (dec_lt i (length l))
        where
          go : Dec (i < length l) → has key k l ≡ false
          go (yes b) =
              let up : k < key (get_or l i d) = greater_key _ _ (parts.1 i d (omega arith) b) in
              has_is key d k l (rw at b) ∙ rw at (ne_eqb _ _ (λ e. omega arith))
          go (no n) = has_not key k l (omega arith)

  -- a key above all goes behind the last
  pub behind : (d : A) (k : ℕ) (l : List A) → Rising key l → (0 < length l → key (get_or l (length l - 1) d) < k) → IsPlace key k l (Err (length l))
  behind d k l r h =
      let at : rank key k l ≡ length l = rank_is key d k l (length l) (omega arith) (λ j b. omega (arith, rising_le d l j (length l - 1) r (omega arith) (omega arith), h (omega arith))) (λ b. omega arith) in
      (sym at, has_not key k l (omega arith))

  pub behind_last : (x : A) (k : ℕ) (l : List A) → Rising key l → slice_get l (length l - 1) ≡ Some x → key x < k → IsPlace key k l (Err (length l))
  behind_last x k l r e h = behind x k l r (λ _. rw (get_or_from_slice_get l _ x x e) h)

  -- what a binary search by the key answers
  pub place : (d : A) (k : ℕ) (l : List A) (r : Result ℕ ℕ) → Rising key l → IsSearchInRange r (length l) → IsBinarySearchResult (λ y. nat_cmp (key y) k) l r → IsPlace key k l r
  place d k l (Ok i) up range is = placed d k i l up range (is d)
  place d k l (Err i) up range is = missed d k i l up range is

  -- where the keys below k end
  pub first_place : (d : A) (k i : ℕ) (l : List A) → i ≤ length l → IsPartitionPoint (λ y. ltb (key y) k ≡ true) (λ y. ltb (key y) k ≡ false) l i → i ≡ rank key k l
  first_place d k i l h p = sym (rank_is key d k l i h (λ j b. ltb-true _ _ (p.0 j d (omega arith) b)) (λ b. ltb-false _ _ (p.1 i d (omega arith) b)))

  pub place_le : (k i : ℕ) (l : List A) → i ≡ rank key k l → i ≤ length l
  place_le k i l e = omega (arith, rank_le key k l)

  -- the rows at and before a place
  pub first_from_is : (k : ℕ) (l : List A) → first_from key k l ≡ slice_get l (rank key k l)
  unfolding if
  first_from_is k [] = refl
  first_from_is k (x ∷ l) = go (ltb (key x) k) (first_from_is k l)
    where
      go : (b : Bool) → first_from key k l ≡ slice_get l (rank key k l) → if b (first_from key k l) (Some x) ≡ slice_get (x ∷ l) (if b (suc (rank key k l)) 0)
      go true e = e
      go false e = refl

  pub row_of_is : (k : ℕ) (l : List A) → has key k l ≡ true → row_of key k l ≡ slice_get l (rank key k l)
  unfolding if
  row_of_is k [] h = refl
  row_of_is k (x ∷ l) h = go (ltb (key x) k) h (row_of_is k l)
    where
      go : (b : Bool) → if b (has key k l) (eqb (key x) k) ≡ true → (has key k l ≡ true → row_of key k l ≡ slice_get l (rank key k l)) → if b (row_of key k l) (if (eqb (key x) k) (Some x) None) ≡ slice_get (x ∷ l) (if b (suc (rank key k l)) 0)
      go true h e = e h
      go false h e = rw h refl

  pub row_of_none : (k : ℕ) (l : List A) → has key k l ≡ false → row_of key k l ≡ None
  unfolding if
  row_of_none k [] h = refl
  row_of_none k (x ∷ l) h = go (ltb (key x) k) h (row_of_none k l)
    where
      go : (b : Bool) → if b (has key k l) (eqb (key x) k) ≡ false → (has key k l ≡ false → row_of key k l ≡ None) → if b (row_of key k l) (if (eqb (key x) k) (Some x) None) ≡ None
      go true h e = e h
      go false h e = rw h refl

  -- the last of the rows before the place
  pub last_below_is : (k : ℕ) (l : List A) → last_below key k l ≡ slice_get (take (rank key k l) l) (length (take (rank key k l) l) - 1)
  unfolding if
  last_below_is k [] = refl
  last_below_is k (x ∷ l) = go (ltb (key x) k) (next x l)
    where
      next : (x : A) (l : List A) → Some (lower key k x l) ≡ slice_get (x ∷ take (rank key k l) l) (length (take (rank key k l) l))
      next x [] = refl
      next x (y ∷ l) = turn (ltb (key y) k) (next y l)
        where
          turn : (b : Bool) → Some (lower key k y l) ≡ slice_get (y ∷ take (rank key k l) l) (length (take (rank key k l) l)) → Some (if b (lower key k y l) x) ≡ slice_get (x ∷ take (if b (suc (rank key k l)) 0) (y ∷ l)) (length (take (if b (suc (rank key k l)) 0) (y ∷ l)))
          turn true e = e
          turn false e = refl

      go : (b : Bool) → Some (lower key k x l) ≡ slice_get (x ∷ take (rank key k l) l) (length (take (rank key k l) l)) → if b (Some (lower key k x l)) None ≡ slice_get (take (if b (suc (rank key k l)) 0) (x ∷ l)) (length (take (if b (suc (rank key k l)) 0) (x ∷ l)) - 1)
      go true e = e ∙ ap (slice_get (x ∷ take (rank key k l) l)) (omega arith)
      go false e = refl

  -- by a default
  pub or_lower : (k : ℕ) (d : A) (l : List A) → unwrap_or (last_below key k l) d ≡ lower key k d l
  or_lower k d [] = refl
  or_lower k d (x ∷ l) = by_if (λ o. unwrap_or o d ≡ lower key k d (x ∷ l)) (ltb (key x) k) (λ e. sym (if_true e _ _)) (λ e. sym (if_false e _ _))

  pub or_upper : (k : ℕ) (d : A) (l : List A) → unwrap_or (first_from key k l) d ≡ upper key k d l
  unfolding if
  or_upper k d [] = refl
  or_upper k d (x ∷ l) = go (ltb (key x) k) (or_upper k d l)
    where
      go : (b : Bool) → unwrap_or (first_from key k l) d ≡ upper key k d l → unwrap_or (if b (first_from key k l) (Some x)) d ≡ if b (upper key k d l) x
      go true e = e
      go false e = refl

last_of_next : {A : Type 0} → (x : A) (l : List A) → slice_get (x ∷ l) (length l) ≡ Some (last x l)
last_of_next x [] = refl
last_of_next x (y ∷ l) = last_of_next y l

-- the first and the last row, by a default
pub or_first : {A : Type 0} → (d : A) (l : List A) → unwrap_or (slice_get l 0) d ≡ first d l
or_first d [] = refl
or_first d (x ∷ l) = refl

pub or_last : {A : Type 0} → (d : A) (l : List A) → unwrap_or (slice_get l (length l - 1)) d ≡ last d l
or_last d [] = refl
or_last d (x ∷ l) = ap (λ i. unwrap_or (slice_get (x ∷ l) i) d) (omega arith) ∙ ap (λ o. unwrap_or o d) (last_of_next x l)

-- whether a test holds of one, as an iterator says it
pub any_is : {A : Type 0} → (p : A → Bool) (l : List A) → any p l ≡ lists.list_any p l
unfolding if
any_is p [] = refl
any_is p (x ∷ l) = go (p x) (any_is p l)
  where
    go : (b : Bool) → any p l ≡ lists.list_any p l → if b true (any p l) ≡ (b || lists.list_any p l)
    go true e = refl
    go false e = e

-- what a change at the place that a search told makes of the rows
module _ {A : Type 0} (key : A → ℕ) {l now : List A} (same : l ≡ now) where
  -- a row whose key is not there put in
  module _ (a : A) (i : ℕ) (p : (i ≡ rank key (key a) now) × (has key (key a) now ≡ false)) where
    pub new_at : i ≤ length l
    new_at = rw same (omega (arith, rank_le key (key a) now, p.0))

    pub new_is : (m : List A) → m ≡ lists.insert l i a → m ≡ put key a now
    new_is m e = e ∙ rw same (sym (put_new key a now p.1 ∙ rw (← p.0) (insert_at_split i a now)))

    pub new_rising : (m : List A) → Rising key l → m ≡ lists.insert l i a → Rising key m
    new_rising m r e = rw (new_is m e) (put_rising key a now (rw same at r))

    pub new_full : (n : ℕ) → length l ≡ n → fault 4 ≡ limited n (put key a now)
    unfolding limited
    new_full n e = sym (if_false (lt-leb _ _ (omega (arith, ap length same, length_put_new key a now p.1))) _ _)

    pub new_fits : (n : ℕ) (m : List A) → length l < n → m ≡ lists.insert l i a → ok m ≡ limited n (put key a now)
    unfolding limited
    new_fits n m b e = rw (new_is m e) (sym (if_true (le-leb _ _ (omega (arith, ap length same, length_put_new key a now p.1))) _ _))

  -- a row put over the one with its key
  module _ (a : A) (i : ℕ) (p : (i ≡ rank key (key a) now) × (has key (key a) now ≡ true)) where
    pub old_at : i < length l
    old_at = rw same (omega (arith, has_below key (key a) now p.1, p.0))

    pub old_is : (m : List A) → m ≡ set l i a → m ≡ put key a now
    old_is m e = e ∙ rw (same, p.0) (sym (put_old key a now p.1))

    pub old_rising : (m : List A) → Rising key l → m ≡ set l i a → Rising key m
    old_rising m r e = rw (old_is m e) (put_rising key a now (rw same at r))

    pub old_fits : (n : ℕ) (m : List A) → length now ≤ n → m ≡ set l i a → ok m ≡ limited n (put key a now)
    unfolding limited
    old_fits n m b e = rw (old_is m e) (sym (if_true (le-leb _ _ (omega (arith, length_put_old key a now p.1))) _ _))

  -- the row with a key taken out
  module _ (k i : ℕ) (p : (i ≡ rank key k now) × (has key k now ≡ true)) where
    pub out_at : i < length l
    out_at = rw same (omega (arith, has_below key k now p.1, p.0))

    pub out_is : (m : List A) → m ≡ lists.remove l i → m ≡ without key k now
    out_is m e = e ∙ rw same (sym (without_is key k now p.1 ∙ rw (← p.0) (remove_at_split i now)))

    pub out_rising : (m : List A) → Rising key l → m ≡ lists.remove l i → Rising key m
    out_rising m r e = rw (out_is m e) (without_rising key k now (rw same at r))

-- an address that is there already
pub held_fits : (n k : ℕ) (now : List ℕ) → length now ≤ n → has own k now ≡ true → ok now ≡ limited n (put own k now)
unfolding limited
held_fits n k now b h = rw (put_held k now h) (sym (if_true (le-leb _ _ b) _ _))

-- rows written in place, as the table has them then
pub row_set : {A : Type 0} → (now l : List A) (i : ℕ) (a : A) → now ≡ l → lists.refill (length l) l (set now i a) ≡ set l i a
row_set now l i a e =
    let long : length (set l i a) ≡ length l = length-set l i a in
    rw e (ap (λ n. take n (set l i a ++ drop (length (set l i a)) l)) (sym long) ∙ take-append_seam (set l i a) _)

-- the row that `get` lends, copied
pub copied_item : {A : Type 0} → (l : List A) (i : ℕ) (r : Option (Bor A)) → IsItemAt l i r → option_copied r ≡ slice_get l i
copied_item l i None h = sym (slice_get_past l i h.3)
copied_item l i (Some x) h = sym (slice_get_read l (length l) i x.now refl h.3.0 h.1)
