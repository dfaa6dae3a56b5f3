-- What `set_end` and `add_block_start` ensure at each return, from what the functions that they call ensure.
use mathlib.Core.Path.{◌≡◌, refl, sym, ap, ◌∙◌}
use mathlib.Core.List.{List, ◌∷◌}
use mathlib.Core.Bool.{Bool, true, false, ◌||◌}
use Prim.Native.Nat.{ℕ, suc, ◌<◌, ◌≤◌}
use native.Mathlib.Omega.{arith}
use lib.Dec.{ltb}
use lib.ListN.{length, take, get_or}
use borrow.Author.Tests.{lt-ltb, le-ltb, ltb-true, ltb-false}
use Rattle.rules.specs.Choice.{if, if_true, if_false}
use Rattle.rules.specs.Ordered.{has, put}
use Rattle.rules.specs.Blocks.{Block, block, start_of, below, reaches, cut, mark, is_new}
use Rattle.rules.proofs.Ordered.{length_put_old, length_put_new}
use Rattle.rules.proofs.Blocks.{mark_over, new_over, mark_held, new_held, mark_open, new_open, length_mark_new, length_mark_old}
use Rattle.ordered.specs.Part.{IsFound}
use Rattle.ordered.specs.declared.Found.{Found}
use Rattle.blocks.specs.Table.{rows, Table, Room, Spare, Looked, Reached, Holds, IsStored, IsAdded}
use Rattle.blocks.specs.declared.Added.{Added}
use Rattle.blocks.specs.declared.Added.TheVariants.{Yes, No, Full}
use Rattle.blocks.proofs.Rows.{length_rows, found_is, below_at}

-- the test for room
module _ (hit : Bool) (n room : ℕ) (r : Bool) (is : r ≡ (hit || ltb n room)) where
  pub room_new : r ≡ true → hit ≡ false → n < room
  room_new t miss = ltb-true n room (sym (rw miss at is) ∙ t)

  pub room_miss : r ≡ false → hit ≡ false
  room_miss t = go hit (sym is ∙ t)
    where
      go : (b : Bool) → (b || ltb n room) ≡ false → b ≡ false
      go true h = h
      go false h = refl

  pub room_none : r ≡ false → room ≤ n
  room_none t = go hit (sym is ∙ t)
    where
      go : (b : Bool) → (b || ltb n room) ≡ false → room ≤ n
      go true h = let z : ◌≡◌ {A = ℕ} 0 1 = cc h in absurd (omega arith)
      go false h = ltb-false n room h

spare : (hit : Bool) (n room : ℕ) (ss es : List ℕ) (r : Bool) → Room n room ss es → r ≡ (hit || ltb n room) → r ≡ true → Spare n hit ss es
spare hit n room ss es r w is t =
    record {
      starts = λ miss. let lt : n < room = room_new hit n room r is t miss in omega arith;
      ends = λ miss. let lt : n < room = room_new hit n room r is t miss in omega arith;
    }

-- nothing changed
pub held : (n : ℕ) (ss es : List ℕ) → Table n ss es → Holds n (rows n ss es) ss es ss es
held n ss es t = record { count = length_rows n ss es t.starts t.ends; live = refl; rest_starts = refl; rest_ends = refl; size_starts = refl; size_ends = refl }

module _ (n room a : ℕ) (ss es : List ℕ) (f : Found) (t : Table n ss es) (w : Room n room ss es) (is : IsFound (take n ss) a f) (r : Bool) (room_is : r ≡ (f.hit || ltb n room)) where
  long : length (rows n ss es) ≡ n
  long = length_rows n ss es t.starts t.ends

  pub looked : r ≡ true → Looked n a f ss es
  looked ok = record { table = t; place = is; spare = spare f.hit n room ss es r w room_is ok }

  -- what grows by one where the key is new passes the room just where the test says no
  fits : (m : ℕ) → (has start_of a (rows n ss es) ≡ true → m ≡ length (rows n ss es)) → (has start_of a (rows n ss es) ≡ false → m ≡ suc (length (rows n ss es))) → r ≡ true → ltb room m ≡ false
  fits m old new ok = go f.hit refl
    where
      go : (b : Bool) → f.hit ≡ b → ltb room m ≡ false
      go true h = le-ltb room m (omega (arith, old (found_is n a ss es t f is true h), long, w.count))
      go false h = le-ltb room m (omega (arith, new (found_is n a ss es t f is false h), long, room_new f.hit n room r room_is ok h))

  passes : (m : ℕ) → (has start_of a (rows n ss es) ≡ false → m ≡ suc (length (rows n ss es))) → r ≡ false → ltb room m ≡ true
  passes m new none_left = lt-ltb room m (omega (arith, new (found_is n a ss es t f is false (room_miss f.hit n room r room_is none_left)), long, room_none f.hit n room r room_is none_left))

  pub stored : (e m : ℕ) (ss' es' : List ℕ) → r ≡ true → Holds m (put start_of (block a e) (rows n ss es)) ss es ss' es' → IsStored n room (block a e) ss es ss' es' (record { count = m; full = false })
  unfolding if
  stored e m ss' es' ok h = record { full = sym (fits (length (put start_of (block a e) (rows n ss es))) (length_put_old start_of (block a e) (rows n ss es)) (length_put_new start_of (block a e) (rows n ss es)) ok); table = h }

  pub not_stored : (e : ℕ) → r ≡ false → IsStored n room (block a e) ss es ss es (record { count = n; full = true })
  unfolding if
  not_stored e none_left = record { full = sym (passes (length (put start_of (block a e) (rows n ss es))) (length_put_new start_of (block a e) (rows n ss es)) none_left); table = held n ss es t }

  added : (m : ℕ) (code : Added) (ss' es' : List ℕ) → r ≡ true → if (is_new a (rows n ss es)) Yes No ≡ code → Holds m (mark a (rows n ss es)) ss es ss' es' → IsAdded n room a ss es ss' es' (record { count = m; added = code })
  added m code ss' es' ok e h =
      let fit : ltb room (length (mark a (rows n ss es))) ≡ false = fits (length (mark a (rows n ss es))) (length_mark_old a (rows n ss es) t.rising) (length_mark_new a (rows n ss es) t.rising) ok in
      record { answer = sym (if_false fit _ _ ∙ e); table = rw (if_false fit (rows n ss es) (mark a (rows n ss es))) h }

  full_step : r ≡ false → IsAdded n room a ss es ss es (record { count = n; added = Full })
  full_step none_left =
      let pass : ltb room (length (mark a (rows n ss es))) ≡ true = passes (length (mark a (rows n ss es))) (length_mark_new a (rows n ss es) t.rising) none_left in
      record { answer = sym (if_true pass _ _); table = rw (if_true pass (rows n ss es) (mark a (rows n ss es))) (held n ss es t) }

-- what `add_block_start` knows once it has looked the address up, and the end of the block before it
pub record Known (n room a : ℕ) (f : Found) (e : ℕ) (r : Bool) (ss es : List ℕ) : Type 0 where
  pub table : Table n ss es
  pub fits : Room n room ss es
  pub place : IsFound (take n ss) a f
  pub end_is : e ≡ get_or (0 ∷ es) f.at 0
  pub room_is : r ≡ (f.hit || ltb n room)

module _ {n room a : ℕ} {f : Found} {e : ℕ} {r : Bool} {ss es : List ℕ} (k : Known n room a f e r ss es) where
  there : (b : Bool) → f.hit ≡ b → has start_of a (rows n ss es) ≡ b
  there = found_is n a ss es k.table f k.place

  end_below : e ≡ (below a (rows n ss es)).end
  end_below = ap (λ (b : Block). b.end) (below_at n a ss es k.table f.at (get_or (0 ∷ ss) f.at 0) e k.place.place refl k.end_is)

  over : a < e → reaches a (rows n ss es) ≡ true
  unfolding reaches
  over h = lt-ltb _ _ (rw end_below at h)

  free : e ≤ a → reaches a (rows n ss es) ≡ false
  unfolding reaches
  free h = le-ltb _ _ (rw end_below at h)

  step : (m : ℕ) (code : Added) (ss' es' : List ℕ) → r ≡ true → if (is_new a (rows n ss es)) Yes No ≡ code → Holds m (mark a (rows n ss es)) ss es ss' es' → IsAdded n room a ss es ss' es' (record { count = m; added = code })
  step = added n room a ss es f k.table k.fits k.place r k.room_is

  pub room_looked : r ≡ true → Looked n a f ss es
  room_looked = looked n room a ss es f k.table k.fits k.place r k.room_is

  pub reached : r ≡ true → a < e → Reached n a f e ss es
  reached ok h = record { looked = room_looked ok; over = over h; end_is = end_below }

  pub added_cut : (m : ℕ) (ss' es' : List ℕ) → r ≡ true → a < e → Holds m (cut a (rows n ss es)) ss es ss' es' → IsAdded n room a ss es ss' es' (record { count = m; added = No })
  added_cut m ss' es' ok h cuts = step m No ss' es' ok (if_false (new_over a (rows n ss es) (over h)) Yes No) (rw (mark_over a (rows n ss es) (over h)) cuts)

  pub added_held : r ≡ true → e ≤ a → f.hit ≡ true → IsAdded n room a ss es ss es (record { count = n; added = No })
  added_held ok h hit = step n No ss es ok (if_false (new_held a (rows n ss es) (free h) (there true hit)) Yes No) (rw (mark_held a (rows n ss es) (free h) (there true hit)) (held n ss es k.table))

  pub added_open : (m : ℕ) (ss' es' : List ℕ) → r ≡ true → e ≤ a → f.hit ≡ false → Holds m (put start_of (block a 0) (rows n ss es)) ss es ss' es' → IsAdded n room a ss es ss' es' (record { count = m; added = Yes })
  added_open m ss' es' ok h miss opened = step m Yes ss' es' ok (if_true (new_open a (rows n ss es) (free h) (there false miss)) Yes No) (rw (mark_open a (rows n ss es) (free h) (there false miss)) opened)

  pub added_full : r ≡ false → IsAdded n room a ss es ss es (record { count = n; added = Full })
  added_full = full_step n room a ss es f k.table k.fits k.place r k.room_is
