-- What a mark makes of the rows of a map, in each case.
use mathlib.Core.Path.{◌≡◌, refl, sym, ap, ◌∙◌}
use mathlib.Core.List.{List}
use mathlib.Core.Bool.{Bool, true, false}
use Prim.Native.Nat.{ℕ, ◌≤◌, ◌<◌}
use native.Mathlib.Omega.{arith}
use lib.Dec.{leb}
use lib.ListN.{length}
use borrow.Author.Tests.{lt-leb, le-leb, leb-false, lt-ltb, le-ltb}
use Rattle.std.specs.Prelude.{Some, None, Result, unwrap_or}
use Rattle.rules.specs.Choice.{if, if_true, limited, ok, fault}
use Rattle.rules.specs.Ordered.{put, has}
use Rattle.rules.specs.Blocks.{block, start_of, below, reaches, cut, mark, is_new}
use Rattle.rules.proofs.Ordered.{length_put_le}
use Rattle.rules.proofs.Blocks.{mark_over, new_over, mark_held, new_held, mark_open, new_open}
use Rattle.faults.specs.declared.Fault.{Fault}
use Rattle.faults.specs.Outcome.{outcome}
use Rattle.tables.specs.declared.maps.Row.{Row}
use Rattle.tables.specs.Rows.{row, key_of}
use Rattle.tables.specs.Places.{last_below}
use Rattle.tables.proofs.Places.{or_lower}
use Rattle.slices.specs.Blocks.{block_of, blocks_of, IsReaching}
use Rattle.slices.proofs.Rows.{put_rows, has_rows, lower_rows, length_rows, outcome_rows}

-- what is within the limit, and what passes it
pub within : {A : Type 0} → (n : ℕ) (m l : List A) → ok m ≡ limited n l → m ≡ l
unfolding limited if
within n m l e = go (leb (length l) n) e
  where
    go : (b : Bool) → ok m ≡ if b (ok l) (fault 4) → m ≡ l
    go true e = cc
    go false e = cc

pub passes_more : {A B : Type 0} → (n k : ℕ) (l : List A) (l' : List B) → length l ≤ length l' → fault k ≡ limited n l → fault k ≡ limited n l'
unfolding limited if
passes_more n k l l' le e = go (leb (length l) n) refl e
  where
    go : (b : Bool) → leb (length l) n ≡ b → fault k ≡ if b (ok l) (fault 4) → fault k ≡ if (leb (length l') n) (ok l') (fault 4)
    go true h e = cc
    go false h e = let lt : n < length l = leb-false _ _ h in
        let same : k ≡ 4 = cc in
        rw (lt-leb (length l') n (omega arith)) (ap fault same)

module _ (a : ℕ) (l : List Row) where
  below_rows : below a (blocks_of l) ≡ block_of (unwrap_or (last_below key_of a l) (row 0 0))
  below_rows = sym (ap block_of (or_lower key_of a (row 0 0) l) ∙ lower_rows block_of key_of start_of (λ _. refl) a (row 0 0) l)

  -- whether the row below reaches over it
  pub none_reaching : last_below key_of a l ≡ None → reaches a (blocks_of l) ≡ false
  unfolding reaches
  none_reaching e = rw (below_rows, e) (le-ltb a 0 (omega arith))

  pub not_reaching : (r : Row) → last_below key_of a l ≡ Some r → r.value ≤ a → reaches a (blocks_of l) ≡ false
  unfolding reaches
  not_reaching r e h = rw (below_rows, e) (le-ltb _ _ h)

  pub is_reaching : (r : Row) → last_below key_of a l ≡ Some r → a < r.value → IsReaching a (blocks_of l) (Some r)
  unfolding reaches
  is_reaching r e h = (rw (below_rows, e) (lt-ltb _ _ h), rw (below_rows, e) refl)

  put_block : (s e : ℕ) (m : List Row) → blocks_of (put key_of (row s e) m) ≡ put start_of (block s e) (blocks_of m)
  put_block s e m = put_rows block_of key_of start_of (λ _. refl) (row s e) m

  -- cut
  module _ (r : Row) (p : IsReaching a (blocks_of l) (Some r)) where
    cut_rows : mark a (blocks_of l) ≡ blocks_of (put key_of (row a r.value) (put key_of (row r.key a) l))
    unfolding cut
    cut_rows = mark_over a (blocks_of l) p.0 ∙ rw p.1 (sym (put_block a r.value (put key_of (row r.key a) l) ∙ ap (put start_of (block a r.value)) (put_block r.key a l)))

    pub cut_none : (n k : ℕ) → fault k ≡ limited n (put key_of (row r.key a) l) → fault k ≡ limited n (mark a (blocks_of l))
    cut_none n k e = rw cut_rows (passes_more n k _ _ (rw (length_rows block_of (put key_of (row a r.value) (put key_of (row r.key a) l))) (length_put_le key_of (row a r.value) (put key_of (row r.key a) l))) e)

    pub cut_is : {X : Type 0} (n : ℕ) (m m' : List Row) (o : Result X Fault) → ok m ≡ limited n (put key_of (row r.key a) l) → outcome m' o ≡ limited n (put key_of (row a r.value) m) → outcome (blocks_of m') o ≡ limited n (mark a (blocks_of l))
    cut_is n m m' o e f =
        let same : m ≡ put key_of (row r.key a) l = within n m _ e in
        rw cut_rows (outcome_rows block_of n m' _ o (rw same at f))

    pub cut_new : false ≡ is_new a (blocks_of l)
    cut_new = sym (new_over a (blocks_of l) p.0)

  module _ (free : reaches a (blocks_of l) ≡ false) where
    -- held
    pub held_is : (n : ℕ) → has key_of a l ≡ true → length l ≤ n → ok (blocks_of l) ≡ limited n (mark a (blocks_of l))
    unfolding limited
    held_is n h le = rw (mark_held a (blocks_of l) free (sym (has_rows block_of key_of start_of (λ _. refl) a l) ∙ h), length_rows block_of l) (sym (if_true (le-leb _ _ le) _ _))

    pub held_new : has key_of a l ≡ true → false ≡ is_new a (blocks_of l)
    held_new h = sym (new_held a (blocks_of l) free (sym (has_rows block_of key_of start_of (λ _. refl) a l) ∙ h))

    -- opened
    pub open_is : {X : Type 0} (n : ℕ) (m : List Row) (o : Result X Fault) → has key_of a l ≡ false → outcome m o ≡ limited n (put key_of (row a 0) l) → outcome (blocks_of m) o ≡ limited n (mark a (blocks_of l))
    open_is n m o h e = rw (mark_open a (blocks_of l) free (sym (has_rows block_of key_of start_of (λ _. refl) a l) ∙ h), ← put_block a 0 l) (outcome_rows block_of n m _ o e)

    pub open_new : has key_of a l ≡ false → true ≡ is_new a (blocks_of l)
    open_new h = sym (new_open a (blocks_of l) free (sym (has_rows block_of key_of start_of (λ _. refl) a l) ∙ h))
