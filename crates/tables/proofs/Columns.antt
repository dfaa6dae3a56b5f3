-- Rows put behind one another, as they stand in a list or in columns.
use mathlib.Core.Path.{◌≡◌, refl, sym, ap, ◌∙◌}
use mathlib.Core.List.{List, [], ◌∷◌, ◌++◌, map}
use Prim.Native.Nat.{ℕ, zero, suc, ◌+◌, ◌<◌, ◌≤◌, min}
use native.Mathlib.Omega.{arith}
use lib.ListN.{length, take, get_or, length-map, get_or-map}
use lib.Seq.{length-take-le, take_all}
use borrow.Author.Tests.{lt-ltb, le-leb}
use Rattle.std.specs.Prelude.{Result, Ok, Err}
use Rattle.std.proofs.lemmas.List.{take_more}
use Rattle.faults.specs.declared.Fault.{Fault}
use Rattle.faults.specs.Outcome.{outcome}
use Rattle.rules.specs.Choice.{if_true, limited, ok}
use Rattle.rules.specs.Ordered.{put, Above, Rising}
use Rattle.rules.specs.Slices.{from_of}
use Rattle.tables.specs.declared.multimap.Way.{Way}
use Rattle.tables.specs.Groups.{grouped}
use Rattle.tables.proofs.Groups.{take_pairs}

module _ {A : Type 0} (key : A → ℕ) where
  above_take : (k n : ℕ) (l : List A) → Above key k l → Above key k (take n l)
  above_take k zero l a = tt
  above_take k (suc n) [] a = tt
  above_take k (suc n) (x ∷ l) a = a

  pub rising_take : (n : ℕ) (l : List A) → Rising key l → Rising key (take n l)
  rising_take zero l r = tt
  rising_take (suc n) [] r = tt
  rising_take (suc n) (x ∷ l) r = (above_take (key x) n l r.0, rising_take n l r.1)

  before_last : (x a : A) (l : List A) → Rising key (x ∷ (l ++ (a ∷ []))) → key x < key a
  before_last x a [] r = r.0
  before_last x a (y ∷ l) r = let up : key x < key y = r.0 in let more : key y < key a = before_last y a l r.1 in omega arith

  -- a row above the last is put behind it
  put_behind : (a : A) (l : List A) → Rising key (l ++ (a ∷ [])) → put key a l ≡ l ++ (a ∷ [])
  put_behind a [] r = refl
  put_behind a (x ∷ l) r = if_true (lt-ltb (key x) (key a) (before_last x a l r)) _ _ ∙ ap (λ m. x ∷ m) (put_behind a l r.1)

  -- the next row of some that ascend, within their limit
  pub put_next : {X : Type 0} (l m : List A) (n i : ℕ) (d a : A) (r : Result X Fault) → Rising key l → length l ≤ n → i < length l → a ≡ get_or l i d → outcome m r ≡ limited n (put key a (take i l)) → m ≡ take (i + 1) l
  unfolding limited
  put_next {X = X} l m n i d a r rise few h at e =
      let next : take (i + 1) l ≡ take i l ++ (a ∷ []) = take_more l i d h ∙ ap (λ x. take i l ++ (x ∷ [])) (sym at) in
      let is : put key a (take i l) ≡ take (i + 1) l = put_behind a (take i l) (rw next at (rising_take (i + 1) l rise)) ∙ sym next in
      let long : length (take (i + 1) l) ≤ n = omega (arith, length-take-le (i + 1) l (omega arith)) in
      done r (e ∙ ap (limited n) is ∙ if_true (le-leb _ _ long) _ _)
    where
      done : (r : Result X Fault) → outcome m r ≡ ok (take (i + 1) l) → m ≡ take (i + 1) l
      done (Ok u) e = cc
      done (Err x) e = cc

-- rows of two numbers, by a column of each
module _ {A : Type 0} (make : ℕ → ℕ → A) (first second : A → ℕ) (whole : (a : A) → make (first a) (second a) ≡ a) (rows : List A) {ks vs : List ℕ} (keys : ks ≡ map first rows) (values : vs ≡ map second rows) where
  pub row_at : (i k v : ℕ) (d : A) → k ≡ get_or ks i (first d) → v ≡ get_or vs i (second d) → make k v ≡ get_or rows i d
  row_at i k v d e f = rw (e, f, keys, values, get_or-map first rows i d, get_or-map second rows i d) (whole (get_or rows i d))

  pub all_rows : (i : ℕ) → i ≡ min (length ks) (length vs) → take i rows ≡ rows
  all_rows i e = take_all i rows (rw e (omega (arith, ap length keys, ap length values, length-map rows first, length-map rows second)))

  pub row_below : (i : ℕ) → i < length ks → i < length rows
  row_below i h = omega (arith, ap length keys, length-map rows first)

-- the next way on of some that ascend, put behind those before it
pub pair_next : (ways old m : List Way) (n i : ℕ) (w d : Way) → Rising from_of (grouped ways) → length ways ≤ n → i < length ways → w ≡ get_or ways i d → old ≡ take i ways → (Rising from_of (grouped (old ++ (w ∷ []))) → length old < n → m ≡ old ++ (w ∷ [])) → m ≡ take (i + 1) ways
pair_next ways old m n i w d rise few h at same pushed =
    let next : old ++ (w ∷ []) ≡ take (i + 1) ways = rw (same, at) (sym (take_more ways i d h)) in
    let long : length old < n = rw same (omega (arith, length-take-le i ways (omega arith))) in
    pushed (rw next (take_pairs (i + 1) ways rise)) long ∙ next
