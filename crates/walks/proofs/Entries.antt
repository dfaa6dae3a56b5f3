-- The known functions as the rows of a map: the same lookups.
use Rattle.std.proofs.Common.{◌≡◌, ℕ, suc, ◌<◌, ◌≤◌, refl, sym, ap, ◌∙◌, List, [], ◌∷◌, map, Bool, true, false, ◌||◌, Option, Some, ltb, leb, ◌&&◌, eqb, arith}
use Rattle.std.specs.Prelude.{unwrap_or}
use mathlib.Core.Bool.{false≢true}
use borrow.Author.Tests.{lt-ltb, le-ltb, ltb-true, ltb-false, eqb-true, eq-eqb}
use Rattle.rules.specs.Choice.{if, if_true, if_false, any}
use Rattle.rules.specs.Ordered.{has, lower, Rising, Above}
use Rattle.rules.specs.Known.{Entry, entry_of, new_entry, covers, covering, any_between}
use Rattle.tables.specs.declared.maps.Row.{Row}
use Rattle.tables.specs.Rows.{row, key_of}
use Rattle.tables.specs.Places.{last_below}
use Rattle.tables.proofs.Places.{or_lower}
use Rattle.slices.proofs.Rows.{has_rows, lower_rows, any_rows}
use Rattle.walks.specs.Around.{Knows}

-- behind an entry of a rising list nothing lies at or below it
above_stops : (k : ℕ) (d : Entry) (es : List Entry) → Above entry_of k es → lower entry_of (suc k) d es ≡ d
above_stops k d [] h = refl
above_stops k d (y ∷ es) h = if_false (le-ltb y.entry (suc k) (omega arith)) _ _

at_entry : (k : ℕ) (d : Entry) (es : List Entry) → Rising entry_of es → has entry_of k es ≡ true → (lower entry_of (suc k) d es).entry ≡ k
unfolding if
at_entry k d [] r h = absurd (false≢true h)
at_entry k d (x ∷ es) r h = by (ltb x.entry k) refl h (at_entry k x es r.1)
  where
    by : (b : Bool) → ltb x.entry k ≡ b → if b (has entry_of k es) (eqb x.entry k) ≡ true → (has entry_of k es ≡ true → (lower entry_of (suc k) x es).entry ≡ k) → (if (ltb x.entry (suc k)) (lower entry_of (suc k) x es) d).entry ≡ k
    by true q z f = let l : x.entry < k = ltb-true _ _ q in rw (lt-ltb x.entry (suc k) (omega arith)) (f z)
    by false q z f =
        let e : x.entry ≡ k = eqb-true _ _ z in
        rw (lt-ltb x.entry (suc k) (omega arith)) (ap entry_of (above_stops k x es (rw (← e) r.0)) ∙ e)

-- where none begins at k
no_entry : (k : ℕ) (d : Entry) (es : List Entry) → has entry_of k es ≡ false → lower entry_of (suc k) d es ≡ lower entry_of k d es
unfolding if
no_entry k d [] h = refl
no_entry k d (x ∷ es) h = by (ltb x.entry k) refl h (no_entry k x es)
  where
    by : (b : Bool) → ltb x.entry k ≡ b → if b (has entry_of k es) (eqb x.entry k) ≡ false → (has entry_of k es ≡ false → lower entry_of (suc k) x es ≡ lower entry_of k x es) → if (ltb x.entry (suc k)) (lower entry_of (suc k) x es) d ≡ if b (lower entry_of k x es) d
    by true q z f = let l : x.entry < k = ltb-true _ _ q in rw (lt-ltb x.entry (suc k) (omega arith)) (f z)
    by false q z f =
        let l : k ≤ x.entry = ltb-false _ _ q in
        let n : x.entry ≡ k → ⊥ = λ e. false≢true (sym z ∙ eq-eqb _ _ e) in
        rw (le-ltb x.entry (suc k) (omega arith)) refl

-- the entry below k is not k, unless there is none
below_entry : (k : ℕ) (d : Entry) (es : List Entry) → (d.entry ≡ k → d.entry ≡ 0) → (lower entry_of k d es).entry ≡ k → (lower entry_of k d es).entry ≡ 0
unfolding if
below_entry k d [] h = h
below_entry k d (x ∷ es) h = by (ltb x.entry k) refl (below_entry k x es)
  where
    by : (b : Bool) → ltb x.entry k ≡ b → ((x.entry ≡ k → x.entry ≡ 0) → (lower entry_of k x es).entry ≡ k → (lower entry_of k x es).entry ≡ 0) → (if b (lower entry_of k x es) d).entry ≡ k → (if b (lower entry_of k x es) d).entry ≡ 0
    by true q f e = let l : x.entry < k = ltb-true _ _ q in f (λ z. absurd (omega arith)) e
    by false q f e = h e

rising_entries : (es : List Entry) → Rising key_of (map (λ (x : Entry). row x.entry x.end) es) → Rising entry_of es
rising_entries [] r = tt
rising_entries (x ∷ []) r = (tt, tt)
rising_entries (x ∷ y ∷ es) r = (r.0, rising_entries (y ∷ es) r.1)

module _ (k : ℕ) (es : List Entry) where
  hit : Rising entry_of es → has entry_of k es ≡ true → covering k es ≡ k
  unfolding covering
  hit r h =
      let e : (lower entry_of (suc k) (new_entry 0) es).entry ≡ k = at_entry k (new_entry 0) es r h in
      if_true (rw (eq-eqb _ _ e) refl) _ _ ∙ e

  covers_end : (x : Entry) → (x.entry ≡ k → x.entry ≡ 0) → covers k x ≡ if (ltb k x.end) x.entry 0
  unfolding if
  covers_end x h = by (eqb x.entry k) refl (ltb k x.end)
    where
      by : (b : Bool) → eqb x.entry k ≡ b → (c : Bool) → if (b || c) x.entry 0 ≡ if c x.entry 0
      by true q true = refl
      by true q false = h (eqb-true _ _ q)
      by false q c = refl

  miss : has entry_of k es ≡ false → covering k es ≡ if (ltb k (lower entry_of k (new_entry 0) es).end) (lower entry_of k (new_entry 0) es).entry 0
  unfolding covering
  miss h = ap (covers k) (no_entry k (new_entry 0) es h) ∙ covers_end (lower entry_of k (new_entry 0) es) (below_entry k (new_entry 0) es (λ e. refl))

  module _ (known : List Row) (knows : Knows known es) where
    pub has_entry : (b : Bool) → b ≡ has key_of k known → has entry_of k es ≡ b
    has_entry b e = sym (e ∙ ap (has key_of k) knows ∙ sym (has_rows (λ (x : Entry). row x.entry x.end) entry_of key_of (λ _. refl) k es))

    -- a function that begins there
    pub begins : (b : Bool) → b ≡ has key_of k known → b ≡ true → Rising key_of known → k ≡ covering k es
    begins b e t r = sym (hit (rising_entries es (rw knows at r)) (has_entry b e ∙ t))

    below_row : row (lower entry_of k (new_entry 0) es).entry (lower entry_of k (new_entry 0) es).end ≡ unwrap_or (last_below key_of k known) (row 0 0)
    below_row = lower_rows (λ (x : Entry). row x.entry x.end) entry_of key_of (λ _. refl) k (new_entry 0) es ∙ sym (ap (lower key_of k (row 0 0)) knows) ∙ sym (or_lower key_of k (row 0 0) known)

    module _ (b : Bool) (e : b ≡ has key_of k known) (f : b ≡ false) where
      -- one that reaches over it
      pub reaches : (r : Row) → Some r ≡ last_below key_of k known → k < r.value → r.key ≡ covering k es
      reaches r q h =
          let same : row (lower entry_of k (new_entry 0) es).entry (lower entry_of k (new_entry 0) es).end ≡ r = below_row ∙ ap (λ o. unwrap_or o (row 0 0)) (sym q) in
          let there : k < (lower entry_of k (new_entry 0) es).end = rw (ap (λ (x : Row). x.value) same) h in
          sym (miss (has_entry b e ∙ f) ∙ if_true (lt-ltb _ _ there) _ _ ∙ ap (λ (x : Row). x.key) same)

      -- none
      pub reaches_not : (o : Option Row) → o ≡ last_below key_of k known → (unwrap_or o (row 0 0)).value ≤ k → 0 ≡ covering k es
      reaches_not o q h =
          let same : row (lower entry_of k (new_entry 0) es).entry (lower entry_of k (new_entry 0) es).end ≡ unwrap_or o (row 0 0) = below_row ∙ ap (λ o. unwrap_or o (row 0 0)) (sym q) in
          let there : (lower entry_of k (new_entry 0) es).end ≤ k = rw (ap (λ (x : Row). x.value) same) h in
          sym (miss (has_entry b e ∙ f) ∙ if_false (le-ltb _ _ there) _ _)

-- one that begins between
pub between : (low high : ℕ) (known : List Row) (es : List Entry) → Knows known es → any (λ (r : Row). leb low r.key && leb r.key high) known ≡ any_between low high es
unfolding any_between
between low high known es knows =
    ap (any (λ (r : Row). leb low r.key && leb r.key high)) knows ∙
    sym (any_rows (λ (x : Entry). row x.entry x.end) (λ (x : Entry). leb low x.entry && leb x.entry high) (λ (r : Row). leb low r.key && leb r.key high) (λ _. refl) es)
