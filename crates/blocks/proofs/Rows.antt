-- The rows of a table by what its two slices hold.
use mathlib.Core.Path.{◌≡◌, refl, sym, ap, ◌∙◌}
use mathlib.Core.List.{List, ◌∷◌, map}
use mathlib.Core.Bool.{Bool, true}
use Prim.Native.Nat.{ℕ, zero, suc, ◌-◌, ◌<◌, ◌≤◌}
use native.Mathlib.Omega.{arith}
use lib.ListN.{length, take, get_or}
use Rattle.rules.specs.Ordered.{self, rank, has, Rising}
use Rattle.rules.specs.Blocks.{Block, block, start_of, below, first_start, last_start, last_end}
use Rattle.rules.proofs.Ordered.{rank_keys, has_keys, rising_keys, first_is, last_is}
use Rattle.rules.proofs.Blocks.{none, below_is}
use Rattle.ordered.specs.Part.{IsFound}
use Rattle.ordered.specs.declared.Found.{Found}
use Rattle.ordered.proofs.Columns.{rows_length, rows_at, rows_keys}
use Rattle.ordered.proofs.Sets.{at_le, at_lt}
use Rattle.blocks.specs.Table.{rows, Table}

-- the element before a place
pub before_next : (xs : List ℕ) (p : ℕ) → (p ≡ 0 → ⊥) → get_or xs (p - 1) 0 ≡ get_or (0 ∷ xs) p 0
before_next xs p h = go p (p - 1) (omega arith)
  where
    go : (p q : ℕ) → p ≡ suc q → get_or xs q 0 ≡ get_or (0 ∷ xs) p 0
    go p q e = rw e

module _ (n : ℕ) (ss es : List ℕ) (hs : n ≤ length ss) (he : n ≤ length es) where
  pub length_rows : length (rows n ss es) ≡ n
  length_rows = rows_length block n ss es hs he

  pub keys : map start_of (rows n ss es) ≡ take n ss
  keys = rows_keys block n ss es hs he start_of (λ x y. refl)

  pub rank_rows : (a : ℕ) → rank start_of a (rows n ss es) ≡ rank self a (take n ss)
  rank_rows a = rank_keys start_of a (rows n ss es) ∙ ap (rank self a) keys

  pub has_rows : (a : ℕ) → has start_of a (rows n ss es) ≡ has self a (take n ss)
  has_rows a = has_keys start_of a (rows n ss es) ∙ ap (has self a) keys

  pub row_at : (i : ℕ) → i < n → get_or (rows n ss es) i none ≡ block (get_or ss i 0) (get_or es i 0)
  row_at i h = rows_at block n ss es hs he i h

  -- the row before a place
  pub row_before : (p : ℕ) → p ≤ n → get_or (none ∷ rows n ss es) p none ≡ block (get_or (0 ∷ ss) p 0) (get_or (0 ∷ es) p 0)
  row_before zero h = refl
  row_before (suc p) h = row_at p h

  pub start_none : n ≡ 0 → 0 ≡ first_start (rows n ss es)
  unfolding first_start
  start_none e = rw e

  pub start_some : (n ≡ 0 → ⊥) → get_or ss 0 0 ≡ first_start (rows n ss es)
  unfolding first_start
  start_some h = sym (ap (λ (b : Block). b.start) (first_is none (rows n ss es) ∙ row_at 0 (omega arith)))

  last_row : (b : Block) → get_or (none ∷ rows n ss es) (length (rows n ss es)) none ≡ block (get_or (0 ∷ ss) n 0) (get_or (0 ∷ es) n 0)
  last_row b = rw length_rows (row_before n (omega arith))

  pub last_start_is : (r : ℕ) → r ≡ get_or (0 ∷ ss) n 0 → r ≡ last_start (rows n ss es)
  unfolding last_start
  last_start_is r e = e ∙ sym (ap (λ (b : Block). b.start) (last_is none none (rows n ss es) ∙ last_row none))

  pub last_end_is : (r : ℕ) → r ≡ get_or (0 ∷ es) n 0 → r ≡ last_end (rows n ss es)
  unfolding last_end
  last_end_is r e = e ∙ sym (ap (λ (b : Block). b.end) (last_is none none (rows n ss es) ∙ last_row none))

pub starts_rise : (n : ℕ) (ss es : List ℕ) → Table n ss es → Rising self (take n ss)
starts_rise n ss es t = rw (keys n ss es t.starts t.ends) at (rising_keys start_of (rows n ss es) t.rising)

-- a place that was looked up
module _ (n a : ℕ) (ss es : List ℕ) (t : Table n ss es) where
  pub place_in : (p : ℕ) → p ≡ rank self a (take n ss) → p ≤ n
  place_in p e = at_le ss n a (record { at = p; hit = has self a (take n ss) }) t.starts (record { place = e; hit = refl })

  pub place_starts : (p : ℕ) → p ≡ rank self a (take n ss) → p ≤ length ss
  place_starts p e = omega (arith, place_in p e, t.starts)

  pub place_ends : (p : ℕ) → p ≡ rank self a (take n ss) → p ≤ length es
  place_ends p e = omega (arith, place_in p e, t.ends)

  pub below_at : (p s e : ℕ) → p ≡ rank self a (take n ss) → s ≡ get_or (0 ∷ ss) p 0 → e ≡ get_or (0 ∷ es) p 0 → block s e ≡ below a (rows n ss es)
  below_at p s e at es_is ee_is =
      let here : rank start_of a (rows n ss es) ≡ p = rank_rows n ss es t.starts t.ends a ∙ sym at in
      rw (es_is, ee_is) (sym (below_is a (rows n ss es) ∙ ap (λ (k : ℕ). get_or (none ∷ rows n ss es) k none) here ∙ row_before n ss es t.starts t.ends p (place_in p at)))

  module _ (f : Found) (is : IsFound (take n ss) a f) where
    pub found_le : f.at ≤ n
    found_le = at_le ss n a f t.starts is

    pub found_lt : f.hit ≡ true → f.at < n
    found_lt h = at_lt ss n a f t.starts is h

    pub found_at : rank start_of a (rows n ss es) ≡ f.at
    found_at = rank_rows n ss es t.starts t.ends a ∙ sym is.place

    pub found_is : (b : Bool) → f.hit ≡ b → has start_of a (rows n ss es) ≡ b
    found_is b e = has_rows n ss es t.starts t.ends a ∙ sym is.hit ∙ e

    pub hit_is : (b : Bool) → b ≡ f.hit → b ≡ has start_of a (rows n ss es)
    hit_is b e = e ∙ sym (found_is f.hit refl)
