-- What `put_at` and `cut_at` ensure at each return, from what the functions that they call ensure.
use mathlib.Core.Path.{◌≡◌, refl, sym, ap, ◌∙◌}
use mathlib.Core.List.{List}
use mathlib.Core.Bool.{true, false}
use Prim.Native.Nat.{ℕ, suc, ◌+◌, ◌-◌, ◌<◌, ◌≤◌}
use native.Mathlib.Numerals.{add-one}
use native.Mathlib.Omega.{arith}
use lib.ListN.{length, take, drop, get_or, set}
use lib.Seq.{get_or-take, drop-drop}
use Rattle.rules.specs.Ordered.{self, rank, has, put, insert_at}
use Rattle.rules.specs.Blocks.{Block, block, start_of, below, cut}
use Rattle.rules.proofs.Ordered.{has_at, put_old, put_new, put_rising, length_put_old, length_put_new, length_put_le}
use Rattle.rules.proofs.Blocks.{trimmed, trimmed_at, some_below}
use Rattle.ordered.specs.Part.{Inserted, Replaced, IsFound}
use Rattle.ordered.specs.declared.Found.{Found}
use Rattle.ordered.proofs.Columns.{rows_change, replacing, replaces, inserting, inserts, kept}
use Rattle.blocks.specs.Table.{rows, Table, Looked, Reached, Holds}
use Rattle.blocks.proofs.Rows.{length_rows, row_at, found_at, found_is, found_le, found_lt}

-- the end of one row replaced
pub row_set : (n q e : ℕ) (ss es es' : List ℕ) → n ≤ length ss → n ≤ length es → q < n → Replaced es es' n q e → rows n ss es' ≡ set (rows n ss es) q (block (get_or ss q 0) e)
row_set n q e ss es es' hs he h p = rows_change block n ss es hs he (replacing q) (replaces q) n (get_or ss q 0) e ss es' (drop n ss) (drop n es) (kept ss n q h hs) p

-- what is unchanged past n is unchanged past m
drop_more : (n m : ℕ) (xs ys : List ℕ) → n ≤ m → drop n xs ≡ drop n ys → drop m xs ≡ drop m ys
drop_more n m xs ys h e =
    let at : n + (m - n) ≡ m = omega arith in
    rw (← at) (sym (drop-drop (m - n) n xs) ∙ ap (drop (m - n)) e ∙ drop-drop (m - n) n ys)

module _ (n a : ℕ) (ss es : List ℕ) (f : Found) (k : Looked n a f ss es) where
  t : Table n ss es
  t = k.table

  is : IsFound (take n ss) a f
  is = k.place

  pub looked_le : f.at ≤ n
  looked_le = found_le n a ss es t f is

  pub looked_lt : f.hit ≡ true → f.at < n
  looked_lt h = found_lt n a ss es t f is h

  pub spare_starts : f.hit ≡ false → n < length ss
  spare_starts miss = k.spare.starts miss

  pub spare_ends : f.hit ≡ false → n < length es
  spare_ends miss = k.spare.ends miss

  pub put_held_row : (e : ℕ) (es' : List ℕ) → f.hit ≡ true → Replaced es es' n f.at e → Holds n (put start_of (block a e) (rows n ss es)) ss es ss es'
  put_held_row e es' h p =
      let held : has start_of a (rows n ss es) ≡ true = found_is n a ss es t f is true h in
      let here : get_or ss f.at 0 ≡ a = sym (get_or-take n ss f.at 0 (found_lt n a ss es t f is h)) ∙ rw k.place.place (has_at self 0 a (take n ss) (sym k.place.hit ∙ h)) in
      record {
        count = length_put_old start_of (block a e) (rows n ss es) held ∙ length_rows n ss es k.table.starts k.table.ends;
        live =
            row_set n f.at e ss es es' k.table.starts k.table.ends (found_lt n a ss es t f is h) p
            ∙ ap (λ (s : ℕ). set (rows n ss es) f.at (block s e)) here
            ∙ sym (put_old start_of (block a e) (rows n ss es) held ∙ ap (λ (k : ℕ). set (rows n ss es) k (block a e)) (found_at n a ss es t f is));
        rest_starts = refl;
        rest_ends = p.rest;
        size_starts = refl;
        size_ends = p.size;
      }

  pub put_new_row : (e : ℕ) (ss' es' : List ℕ) → f.hit ≡ false → Inserted ss ss' n f.at a → Inserted es es' n f.at e → Holds (n + 1) (put start_of (block a e) (rows n ss es)) ss es ss' es'
  put_new_row e ss' es' h p q =
      let miss : has start_of a (rows n ss es) ≡ false = found_is n a ss es t f is false h in
      rw (add-one n) (record {
        count = length_put_new start_of (block a e) (rows n ss es) miss ∙ ap suc (length_rows n ss es k.table.starts k.table.ends);
        live =
            rows_change block n ss es k.table.starts k.table.ends (inserting f.at) (inserts f.at) (suc n) a e ss' es' (drop (suc n) ss) (drop (suc n) es) p q
            ∙ sym (put_new start_of (block a e) (rows n ss es) miss ∙ ap (λ (k : ℕ). insert_at k (block a e) (rows n ss es)) (found_at n a ss es t f is));
        rest_starts = p.rest;
        rest_ends = q.rest;
        size_starts = p.size;
        size_ends = q.size;
      })

-- a block reaches over a, and its end is set to a
module _ (n a e : ℕ) (ss es : List ℕ) (f : Found) (w : Reached n a f e ss es) where
  table : Table n ss es
  table = w.looked.table

  here : rank start_of a (rows n ss es) ≡ f.at
  here = found_at n a ss es table f w.looked.place

  pub before_place : 1 ≤ f.at
  before_place = rw (← here) (some_below a (rows n ss es) w.over)

  pub before_in : f.at - 1 < n
  before_in = omega (arith, found_le n a ss es table f w.looked.place, before_place)

  module _ (es' : List ℕ) (p : Replaced es es' n (f.at - 1) a) where
    trimmed_rows : rows n ss es' ≡ trimmed a (rows n ss es)
    trimmed_rows =
        row_set n (f.at - 1) a ss es es' w.looked.table.starts w.looked.table.ends before_in p
        ∙ ap (λ (b : Block). set (rows n ss es) (f.at - 1) (block b.start a)) (sym (row_at n ss es w.looked.table.starts w.looked.table.ends (f.at - 1) before_in))
        ∙ sym (trimmed_at a (rows n ss es) w.over w.looked.table.rising (f.at - 1) (here ∙ omega (arith, before_place)))

    pub trimmed_looked : Looked n a f ss es'
    trimmed_looked =
        record {
          table = record {
            starts = w.looked.table.starts;
            ends = rw p.size w.looked.table.ends;
            rising = rw trimmed_rows (put_rising start_of (block (below a (rows n ss es)).start a) (rows n ss es) w.looked.table.rising);
          };
          place = w.looked.place;
          spare = record { starts = w.looked.spare.starts; ends = λ miss. rw p.size (w.looked.spare.ends miss) };
        }

    pub cut_rows : (m : ℕ) (ss'' es'' : List ℕ) → Holds m (put start_of (block a e) (rows n ss es')) ss es' ss'' es'' → Holds m (cut a (rows n ss es)) ss es ss'' es''
    unfolding cut
    cut_rows m ss'' es'' h =
        let same : put start_of (block a e) (rows n ss es') ≡ cut a (rows n ss es) = rw (trimmed_rows, w.end_is) in
        let longer : n ≤ m = omega (arith, h.count, length_put_le start_of (block a e) (rows n ss es'), length_rows n ss es' w.looked.table.starts trimmed_looked.table.ends) in
        record {
          count = rw (← same) h.count;
          live = h.live ∙ same;
          rest_starts = h.rest_starts;
          rest_ends = h.rest_ends ∙ drop_more n m es' es longer p.rest;
          size_starts = h.size_starts;
          size_ends = h.size_ends ∙ p.size;
        }
