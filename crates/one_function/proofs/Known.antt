-- Known functions as they are cut from a lent list, as the rules have them, and as rows of a table.
use Rattle.std.proofs.Common.{◌≡◌, ℕ, zero, suc, ◌+◌, ◌/◌, ◌%◌, ◌<◌, ◌≤◌, refl, sym, ap, ◌∙◌, List, [], ◌∷◌, length, get_or, take, map, Bool, true, false, leb, ltb, arith}
use lib.ListN.{length-map, get_or-map}
use lib.Seq.{take_all}
use borrow.Author.Tests.{leb-true, ltb-true, eq-eqb, ne_eqb}
use Rattle.std.specs.Prelude.{Result}
use Rattle.std.specs.Simd.{first_chunks}
use Rattle.rules.specs.Ordered.{put, Rising}
use Rattle.rules.specs.Choice.{limited}
use Rattle.rules.specs.Blocks.{Block, block}
use Rattle.rules.specs.Known.{Entry}
use Rattle.rules.specs.Check.{chained}
use Rattle.rules.specs.OneFunction.{known_entry, are_known}
use Rattle.rules.proofs.Tests.{and_left, and_right}
use Rattle.faults.specs.declared.Fault.{Fault}
use Rattle.faults.specs.Outcome.{outcome}
use Rattle.tables.specs.Rows.{row, key_of}
use Rattle.tables.specs.declared.maps.Row.{Row}
use Rattle.tables.proofs.Columns.{put_next}
use Rattle.walks.specs.Around.{Knows}
use Rattle.one_function.specs.Rows.{known_blocks, are_known_list, block_in, row_in}

-- ---- rows as they are cut

cut : (n : ℕ) (l : List ℕ) → length l ≡ n + n → map block_in (first_chunks 2 n l) ≡ known_blocks l
cut zero [] e = refl
cut zero (a ∷ l) e = absurd (omega arith)
cut (suc n) [] e = absurd (omega arith)
cut (suc n) (a ∷ []) e = absurd (omega arith)
cut (suc n) (a ∷ b ∷ l) e = ap (λ (m : List Block). block a b ∷ m) (cut n l (omega arith))

module _ (l : List ℕ) (whole : length l % 2 ≡ 0) (c : List (List ℕ)) (chunks : c ≡ first_chunks 2 (length l / 2) l) where
  blocks_are : map block_in c ≡ known_blocks l
  blocks_are = ap (map block_in) chunks ∙ cut (length l / 2) l (omega arith)

  -- whole rows are known functions where these are
  pub known_are : (r : Bool) → r ≡ are_known (map block_in c) → are_known_list l ≡ r
  unfolding are_known_list
  known_are r e = rw (eq-eqb (length l % 2) 0 whole, ← blocks_are) (sym e)

  rows_are : (m : List (List ℕ)) → map row_in m ≡ map (λ (x : Entry). row x.entry x.end) (map known_entry (map block_in m))
  rows_are [] = refl
  rows_are (x ∷ m) = ap (λ (n : List Row). row_in x ∷ n) (rows_are m)

  pub known_rows : (known : List Row) → known ≡ map row_in c → Knows known (map known_entry (known_blocks l))
  known_rows known e = e ∙ rows_are c ∙ ap (λ (m : List Block). map (λ (x : Entry). row x.entry x.end) (map known_entry m)) blocks_are

-- a row that is not whole
pub known_broken : (l : List ℕ) → 1 ≤ length l % 2 → are_known_list l ≡ false
unfolding are_known_list
known_broken l h = rw (ne_eqb (length l % 2) 0 (λ e. omega arith)) refl

-- ---- rows that ascend, put behind one another

ascending : (c : List (List ℕ)) → chained (λ (a b : Block). ltb a.start b.start) (map block_in c) ≡ true → Rising key_of (map row_in c)
ascending [] h = tt
ascending (x ∷ []) h = (tt, tt)
ascending (x ∷ y ∷ c) h = (ltb-true _ _ (and_left _ _ h), ascending (y ∷ c) (and_right (ltb (block_in x).start (block_in y).start) _ h))

module _ (c : List (List ℕ)) (known : are_known (map block_in c) ≡ true) where
  rising : Rising key_of (map row_in c)
  unfolding are_known
  rising = ascending c (and_right (leb (length (map block_in c)) 1024) _ known)

  few : length (map row_in c) ≤ 1024
  unfolding are_known
  few = omega (arith, length-map c row_in, length-map c block_in, leb-true (length (map block_in c)) 1024 (and_left _ _ known))

  pub next_known : {X : Type 0} (m : List Row) (i : ℕ) (r : Result X Fault) → i < length c → outcome m r ≡ limited 1024 (put key_of (row_in (get_or c i [])) (take i (map row_in c))) → m ≡ take (i + 1) (map row_in c)
  next_known m i r h e = put_next key_of (map row_in c) m 1024 i (row 0 0) (row_in (get_or c i [])) r rising few (omega (arith, length-map c row_in)) (sym (get_or-map row_in c i [])) e

  pub all_known : (m : List Row) (i : ℕ) → length c ≤ i → m ≡ take i (map row_in c) → m ≡ map row_in c
  all_known m i h e = e ∙ take_all i (map row_in c) (omega (arith, length-map c row_in))
