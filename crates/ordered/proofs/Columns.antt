-- Tables whose columns stand in arrays of their own: a change of each column at the same index is that change of the rows.
-- Said once for every change that goes row by row, for two and for three columns, and for rows of any type.
use mathlib.Core.Path.{◌≡◌, refl, sym, ap, ap₂, ◌∙◌}
use mathlib.Core.List.{List, [], ◌∷◌, map}
use Prim.Native.Nat.{ℕ, zero, suc, ◌+◌, ◌-◌, ◌<◌, ◌≤◌}
use native.Mathlib.Nat.{suc_inj}
use native.Mathlib.Omega.{arith}
use lib.ListN.{length, take, drop, get_or, set, length-set, replicate, length-replicate}
use lib.Seq.{get_or-take, get_or-drop, length-take-le, set-get_or}
use Rattle.rules.specs.Ordered.{insert_at, remove_at}
use Rattle.ordered.specs.Columns.{join, join3, both, spread}
use Rattle.ordered.specs.Part.{Changed, Inserted, Replaced, Removed, Column}

module _ {X Y A : Type 0} (f : X → Y → A) where
  pub length_join : (xs : List X) (ys : List Y) → length xs ≡ length ys → length (join f xs ys) ≡ length xs
  length_join [] ys e = refl
  length_join (x ∷ xs) [] e = sym e
  length_join (x ∷ xs) (y ∷ ys) e = ap suc (length_join xs ys (suc_inj e))

  pub getD_join : (dx : X) (dy : Y) (xs : List X) (ys : List Y) (i : ℕ) → length xs ≡ length ys → get_or (join f xs ys) i (f dx dy) ≡ f (get_or xs i dx) (get_or ys i dy)
  getD_join dx dy [] [] i e = refl
  getD_join dx dy [] (y ∷ ys) i e = absurd (omega arith)
  getD_join dx dy (x ∷ xs) [] i e = absurd (omega arith)
  getD_join dx dy (x ∷ xs) (y ∷ ys) zero e = refl
  getD_join dx dy (x ∷ xs) (y ∷ ys) (suc i) e = getD_join dx dy xs ys i (suc_inj e)

  -- the first column read back from the rows, and the second
  pub first_of_join : (g : A → X) → ((x : X) (y : Y) → g (f x y) ≡ x) → (xs : List X) (ys : List Y) → length xs ≡ length ys → map g (join f xs ys) ≡ xs
  first_of_join g k [] ys e = refl
  first_of_join g k (x ∷ xs) [] e = absurd (omega arith)
  first_of_join g k (x ∷ xs) (y ∷ ys) e = ap₂ (λ (a : X) (l : List X). a ∷ l) (k x y) (first_of_join g k xs ys (suc_inj e))

  pub second_of_join : (g : A → Y) → ((x : X) (y : Y) → g (f x y) ≡ y) → (xs : List X) (ys : List Y) → length xs ≡ length ys → map g (join f xs ys) ≡ ys
  second_of_join g k [] [] e = refl
  second_of_join g k [] (y ∷ ys) e = absurd (omega arith)
  second_of_join g k (x ∷ xs) [] e = absurd (omega arith)
  second_of_join g k (x ∷ xs) (y ∷ ys) e = ap₂ (λ (a : Y) (l : List Y). a ∷ l) (k x y) (second_of_join g k xs ys (suc_inj e))

-- a change of a list that goes row by row
abbrev pub Change : Type 1
Change = (A : Type 0) → A → List A → List A

abbrev pub Rowwise : Change → Type 1
Rowwise op = (X Y A : Type 0) (f : X → Y → A) (x : X) (y : Y) (xs : List X) (ys : List Y) → length xs ≡ length ys → join f (op X x xs) (op Y y ys) ≡ op A (f x y) (join f xs ys)

abbrev pub inserting : ℕ → Change
inserting i A v l = insert_at i v l

abbrev pub replacing : ℕ → Change
replacing i A v l = set l i v

abbrev pub removing : ℕ → Change
removing i A v l = remove_at i l

pub inserts : (i : ℕ) → Rowwise (inserting i)
inserts zero X Y A f x y xs ys e = refl
inserts (suc i) X Y A f x y [] [] e = refl
inserts (suc i) X Y A f x y [] (z ∷ ys) e = absurd (omega arith)
inserts (suc i) X Y A f x y (w ∷ xs) [] e = absurd (omega arith)
inserts (suc i) X Y A f x y (w ∷ xs) (z ∷ ys) e = ap (λ (r : List A). f w z ∷ r) (inserts i X Y A f x y xs ys (suc_inj e))

pub replaces : (i : ℕ) → Rowwise (replacing i)
replaces zero X Y A f x y [] ys e = refl
replaces zero X Y A f x y (w ∷ xs) [] e = absurd (omega arith)
replaces zero X Y A f x y (w ∷ xs) (z ∷ ys) e = refl
replaces (suc i) X Y A f x y [] ys e = refl
replaces (suc i) X Y A f x y (w ∷ xs) [] e = absurd (omega arith)
replaces (suc i) X Y A f x y (w ∷ xs) (z ∷ ys) e = ap (λ (r : List A). f w z ∷ r) (replaces i X Y A f x y xs ys (suc_inj e))

pub removes : (i : ℕ) → Rowwise (removing i)
removes zero X Y A f x y [] ys e = refl
removes zero X Y A f x y (w ∷ xs) [] e = absurd (omega arith)
removes zero X Y A f x y (w ∷ xs) (z ∷ ys) e = refl
removes (suc i) X Y A f x y [] ys e = refl
removes (suc i) X Y A f x y (w ∷ xs) [] e = absurd (omega arith)
removes (suc i) X Y A f x y (w ∷ xs) (z ∷ ys) e = ap (λ (r : List A). f w z ∷ r) (removes i X Y A f x y xs ys (suc_inj e))

-- three columns are two, of which the second is the other two joined
pub rowwise3 : (op : Change) → Rowwise op → (X Y Z A : Type 0) (f : X → Y → Z → A) (x : X) (y : Y) (z : Z) (xs : List X) (ys : List Y) (zs : List Z) → length xs ≡ length ys → length ys ≡ length zs → join3 f (op X x xs) (op Y y ys) (op Z z zs) ≡ op A (f x y z) (join3 f xs ys zs)
rowwise3 op law X Y Z A f x y z xs ys zs e e' =
    ap (λ (l : List (Y × Z)). join (spread f) (op X x xs) l) (law Y Z (Y × Z) both y z ys zs e')
    ∙ law X (Y × Z) A (spread f) x (y, z) xs (join both ys zs) (e ∙ sym (length_join both ys zs e'))

-- the first n elements of two arrays have one length
pub same_size : (n : ℕ) (xs ys : List ℕ) → n ≤ length xs → n ≤ length ys → length (take n xs) ≡ length (take n ys)
same_size n xs ys hx hy = length-take-le n xs hx ∙ sym (length-take-le n ys hy)

-- the first n rows of two arrays
module _ {A : Type 0} (f : ℕ → ℕ → A) (n : ℕ) (xs ys : List ℕ) (hx : n ≤ length xs) (hy : n ≤ length ys) where
  pub rows_length : length (join f (take n xs) (take n ys)) ≡ n
  rows_length = length_join f (take n xs) (take n ys) (same_size n xs ys hx hy) ∙ length-take-le n xs hx

  pub rows_at : (i : ℕ) → i < n → get_or (join f (take n xs) (take n ys)) i (f 0 0) ≡ f (get_or xs i 0) (get_or ys i 0)
  rows_at i h = getD_join f 0 0 (take n xs) (take n ys) i (same_size n xs ys hx hy) ∙ rw (get_or-take n xs i 0 h, get_or-take n ys i 0 h)

  pub rows_keys : (key : A → ℕ) → ((x y : ℕ) → key (f x y) ≡ x) → map key (join f (take n xs) (take n ys)) ≡ take n xs
  rows_keys key k = first_of_join f key k (take n xs) (take n ys) (same_size n xs ys hx hy)

  pub rows_values : (value : A → ℕ) → ((x y : ℕ) → value (f x y) ≡ y) → map value (join f (take n xs) (take n ys)) ≡ take n ys
  rows_values value k = second_of_join f value k (take n xs) (take n ys) (same_size n xs ys hx hy)

  -- the same change in both columns changes the row
  pub rows_change : (op : Change) → Rowwise op → (m x y : ℕ) (xs' ys' r s : List ℕ) → Changed xs xs' m (op ℕ x (take n xs)) r → Changed ys ys' m (op ℕ y (take n ys)) s → join f (take m xs') (take m ys') ≡ op A (f x y) (join f (take n xs) (take n ys))
  rows_change op law m x y xs' ys' r s p q = rw (p.live, q.live) (law ℕ ℕ A f x y (take n xs) (take n ys) (same_size n xs ys hx hy))

-- the first n rows of three arrays
module _ {A : Type 0} (f : ℕ → ℕ → ℕ → A) (n : ℕ) (xs ys zs : List ℕ) (hx : n ≤ length xs) (hy : n ≤ length ys) (hz : n ≤ length zs) where
  others : length (join both (take n ys) (take n zs)) ≡ length (take n ys)
  others = length_join both (take n ys) (take n zs) (same_size n ys zs hy hz)

  size3 : length (take n xs) ≡ length (join both (take n ys) (take n zs))
  size3 = same_size n xs ys hx hy ∙ sym others

  pub rows3_length : length (join3 f (take n xs) (take n ys) (take n zs)) ≡ n
  rows3_length = length_join (spread f) (take n xs) (join both (take n ys) (take n zs)) size3 ∙ length-take-le n xs hx

  pub rows3_at : (i : ℕ) → i < n → get_or (join3 f (take n xs) (take n ys) (take n zs)) i (f 0 0 0) ≡ f (get_or xs i 0) (get_or ys i 0) (get_or zs i 0)
  rows3_at i h =
      getD_join (spread f) 0 (0, 0) (take n xs) (join both (take n ys) (take n zs)) i size3
      ∙ ap (λ (p : ℕ × ℕ). f (get_or (take n xs) i 0) p.0 p.1) (rows_at both n ys zs hy hz i h)
      ∙ rw (get_or-take n xs i 0 h)

  pub rows3_keys : (key : A → ℕ) → ((x y z : ℕ) → key (f x y z) ≡ x) → map key (join3 f (take n xs) (take n ys) (take n zs)) ≡ take n xs
  rows3_keys key k = first_of_join (spread f) key (λ x p. k x p.0 p.1) (take n xs) (join both (take n ys) (take n zs)) size3

  pub rows3_change : (op : Change) → Rowwise op → (m x y z : ℕ) (xs' ys' zs' r s t : List ℕ) → Changed xs xs' m (op ℕ x (take n xs)) r → Changed ys ys' m (op ℕ y (take n ys)) s → Changed zs zs' m (op ℕ z (take n zs)) t → join3 f (take m xs') (take m ys') (take m zs') ≡ op A (f x y z) (join3 f (take n xs) (take n ys) (take n zs))
  rows3_change op law m x y z xs' ys' zs' r s t p q u = rw (p.live, q.live, u.live) (rowwise3 op law ℕ ℕ ℕ A f x y z (take n xs) (take n ys) (take n zs) (same_size n xs ys hx hy) (same_size n ys zs hy hz))

-- a column that stays is one whose element at i is replaced by itself
pub kept : (xs : List ℕ) (n i : ℕ) → i < n → n ≤ length xs → Replaced xs xs n i (get_or xs i 0)
kept xs n i h le =
    record {
      count = length-set (take n xs) i (get_or xs i 0) ∙ length-take-le n xs le;
      live = sym (ap (λ (v : ℕ). set (take n xs) i v) (sym (get_or-take n xs i 0 h)) ∙ set-get_or (take n xs) i 0);
      rest = refl;
      size = refl;
    }

-- what is past the count is zero, where what each change leaves there is
zeros_past : (m : ℕ) (l r : List ℕ) → drop m l ≡ r → ((k : ℕ) → get_or r k 0 ≡ 0) → (k : ℕ) → m ≤ k → get_or l k 0 ≡ 0
zeros_past m l r e z k h =
    let at : m + (k - m) ≡ k = omega arith in
    rw (← at) (sym (get_or-drop m l (k - m) 0) ∙ ap (λ (l : List ℕ). get_or l (k - m) 0) e ∙ z (k - m))

pub zeros_drop : (n m : ℕ) (l : List ℕ) → n ≤ m → ((k : ℕ) → n ≤ k → get_or l k 0 ≡ 0) → (k : ℕ) → get_or (drop m l) k 0 ≡ 0
zeros_drop n m l h z k = get_or-drop m l k 0 ∙ z (m + k) (omega arith)

zeros_cons : (l : List ℕ) → ((k : ℕ) → get_or l k 0 ≡ 0) → (k : ℕ) → get_or (0 ∷ l) k 0 ≡ 0
zeros_cons l z zero = refl
zeros_cons l z (suc k) = z k

-- what each change makes of a column that is zero past the count
module _ (cap n : ℕ) (xs ys front back : List ℕ) (col : Column cap n xs) where
  pub column_change : (m : ℕ) → m ≤ cap → Changed xs ys m front back → ((k : ℕ) → get_or back k 0 ≡ 0) → Column cap m ys
  column_change m h p z = record { fits = h; size = p.size ∙ col.size; clear = zeros_past m ys back p.rest z }

module _ (cap n : ℕ) (xs ys : List ℕ) (col : Column cap n xs) where
  pub column_insert : (i v : ℕ) → n < cap → Inserted xs ys n i v → Column cap (suc n) ys
  column_insert i v h p = column_change cap n xs ys (insert_at i v (take n xs)) (drop (suc n) xs) col (suc n) h p (zeros_drop n (suc n) xs (omega arith) col.clear)

  pub column_replace : (i v : ℕ) → Replaced xs ys n i v → Column cap n ys
  column_replace i v p = column_change cap n xs ys (set (take n xs) i v) (drop n xs) col n col.fits p (zeros_drop n n xs (omega arith) col.clear)

  pub column_remove : (i m : ℕ) → m ≤ n → Removed xs ys n i m → Column cap m ys
  column_remove i m h p = let fits : n ≤ cap = col.fits in column_change cap n xs ys (remove_at i (take n xs)) (0 ∷ drop n xs) col m (omega arith) p (zeros_cons (drop n xs) (zeros_drop n n xs (omega arith) col.clear))

pub column_empty : (room : ℕ) → Column room 0 (replicate room 0)
column_empty room = record { fits = omega arith; size = length-replicate room 0; clear = λ k _. zeros room k }
  where
    zeros : (m k : ℕ) → ◌≡◌ {A = ℕ} (get_or (replicate m 0) k 0) 0
    zeros zero k = refl
    zeros (suc m) zero = refl
    zeros (suc m) (suc k) = zeros m k
