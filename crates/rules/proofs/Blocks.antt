-- The laws of `specs/Blocks.antt`: what a mark comes to in each case, and the checks by index.
use mathlib.Core.Path.{◌≡◌, refl, sym, ap, ◌∙◌}
use mathlib.Core.List.{List, [], ◌∷◌}
use mathlib.Core.Bool.{Bool, true, false, ◌&&◌, not}
use Prim.Native.Nat.{ℕ, zero, suc, ◌-◌, ◌<◌, ◌≤◌}
use native.Mathlib.Nat.{le_of_suc-le-suc}
use native.Mathlib.Omega.{arith}
use lib.Dec.{ltb}
use lib.ListN.{length, drop, get_or, set, length-set, drop_of_length-le}
use lib.Seq.{drop-cons}
use borrow.Author.Tests.{ltb-true}
use Rattle.rules.specs.Choice.{if_true, if_false}
use Rattle.rules.specs.Ordered.{rank, has, put, Above, Rising}
use Rattle.rules.specs.Blocks.{Block, block, start_of, below, reaches, cut, mark, is_new, apart, first_disconnected_block, is_block, starts_above, is_table}
use Rattle.rules.proofs.Ordered.{rank_le, lower_is, put_at, put_rising, has_set, length_put_new, length_put_old}

abbrev pub none : Block
none = block 0 0

-- the nearest block below stands just before the place
pub below_is : (a : ℕ) (bs : List Block) → below a bs ≡ get_or (none ∷ bs) (rank start_of a bs) none
below_is a bs = lower_is start_of none none a bs

-- the cases of a mark
module _ (a : ℕ) (bs : List Block) where
  pub mark_over : reaches a bs ≡ true → mark a bs ≡ cut a bs
  unfolding mark
  mark_over over = if_true over _ _

  pub new_over : reaches a bs ≡ true → is_new a bs ≡ false
  unfolding is_new
  new_over over = if_true over _ _

  pub mark_held : reaches a bs ≡ false → has start_of a bs ≡ true → mark a bs ≡ bs
  unfolding mark
  mark_held free held = if_false free _ _ ∙ if_true held _ _

  pub new_held : reaches a bs ≡ false → has start_of a bs ≡ true → is_new a bs ≡ false
  unfolding is_new
  new_held free held = if_false free _ _ ∙ ap not held

  pub mark_open : reaches a bs ≡ false → has start_of a bs ≡ false → mark a bs ≡ put start_of (block a 0) bs
  unfolding mark
  mark_open free miss = if_false free _ _ ∙ if_false miss _ _

  pub new_open : reaches a bs ≡ false → has start_of a bs ≡ false → is_new a bs ≡ true
  unfolding is_new
  new_open free miss = if_false free _ _ ∙ ap not miss

  -- the block that reaches over a, ended at a
  abbrev pub trimmed : List Block
  trimmed = put start_of (block (below a bs).start a) bs

  module _ (over : reaches a bs ≡ true) where
    end_above : a < (below a bs).end
    unfolding reaches
    end_above = ltb-true _ _ over

    pub some_below : 0 < rank start_of a bs
    some_below = go (rank start_of a bs) (rw (below_is a bs) at end_above)
      where
        go : (p : ℕ) → a < (get_or (none ∷ bs) p none).end → 0 < p
        go zero h = absurd (omega arith)
        go (suc p) h = omega arith

    -- the row at q is the one that is ended
    pub trimmed_at : Rising start_of bs → (q : ℕ) → rank start_of a bs ≡ suc q → trimmed ≡ set bs q (block (get_or bs q none).start a)
    trimmed_at rise q e =
        let low : below a bs ≡ get_or bs q none = below_is a bs ∙ ap (λ (p : ℕ). get_or (none ∷ bs) p none) e in
        rw low (put_at start_of none (block (get_or bs q none).start a) bs q rise (omega (arith, rank_le start_of a bs)) refl)

    module _ (rise : Rising start_of bs) where
      abbrev q : ℕ
      q = rank start_of a bs - 1

      is : trimmed ≡ set bs q (block (get_or bs q none).start a)
      is = trimmed_at rise q (omega (arith, some_below))

      pub has_trimmed : has start_of a trimmed ≡ has start_of a bs
      has_trimmed = ap (has start_of a) is ∙ has_set start_of none a bs q (block (get_or bs q none).start a) refl

      pub length_trimmed : length trimmed ≡ length bs
      length_trimmed = ap length is ∙ length-set bs q (block (get_or bs q none).start a)

-- a mark makes the table longer by one where no block starts there
module _ (a : ℕ) (bs : List Block) (rise : Rising start_of bs) where
  pub length_mark_new : has start_of a bs ≡ false → length (mark a bs) ≡ suc (length bs)
  unfolding cut
  length_mark_new miss = go (reaches a bs) refl
    where
      go : (t : Bool) → reaches a bs ≡ t → length (mark a bs) ≡ suc (length bs)
      go true over =
          ap length (mark_over a bs over)
          ∙ length_put_new start_of (block a (below a bs).end) (trimmed a bs) (has_trimmed a bs over rise ∙ miss)
          ∙ ap suc (length_trimmed a bs over rise)
      go false free = ap length (mark_open a bs free miss) ∙ length_put_new start_of (block a 0) bs miss

  pub length_mark_old : has start_of a bs ≡ true → length (mark a bs) ≡ length bs
  unfolding cut
  length_mark_old held = go (reaches a bs) refl
    where
      go : (t : Bool) → reaches a bs ≡ t → length (mark a bs) ≡ length bs
      go true over =
          ap length (mark_over a bs over)
          ∙ length_put_old start_of (block a (below a bs).end) (trimmed a bs) (has_trimmed a bs over rise ∙ held)
          ∙ length_trimmed a bs over rise
      go false free = ap length (mark_held a bs free held)

  pub mark_rising : Rising start_of (mark a bs)
  unfolding cut
  mark_rising = go (reaches a bs) (has start_of a bs) refl refl
    where
      go : (t u : Bool) → reaches a bs ≡ t → has start_of a bs ≡ u → Rising start_of (mark a bs)
      go true u over h = rw (mark_over a bs over) (put_rising start_of (block a (below a bs).end) (trimmed a bs) (put_rising start_of (block (below a bs).start a) bs rise))
      go false true free h = rw (mark_held a bs free h) rise
      go false false free h = rw (mark_open a bs free h) (put_rising start_of (block a 0) bs rise)

-- the search for a block that stands apart, at index i
pub apart_never : (bs : List Block) (i : ℕ) → length bs ≤ suc i → first_disconnected_block (drop i bs) ≡ none
apart_never [] zero h = refl
apart_never (b ∷ []) zero h = refl
apart_never (b ∷ c ∷ bs) zero h = absurd (omega arith)
apart_never [] (suc i) h = refl
apart_never (b ∷ bs) (suc i) h = apart_never bs i (le_of_suc-le-suc h)

module _ (bs : List Block) (i : ℕ) (h : suc i < length bs) where
  two : drop i bs ≡ get_or bs i none ∷ get_or bs (suc i) none ∷ drop (suc (suc i)) bs
  two = drop-cons bs i none (omega arith) ∙ ap (λ (l : List Block). get_or bs i none ∷ l) (drop-cons bs (suc i) none h)

  pub apart_here : apart (get_or bs i none) (get_or bs (suc i) none) ≡ true → first_disconnected_block (drop i bs) ≡ get_or bs i none
  apart_here t = ap first_disconnected_block two ∙ if_true t _ _

  pub apart_later : apart (get_or bs i none) (get_or bs (suc i) none) ≡ false → first_disconnected_block (drop i bs) ≡ first_disconnected_block (drop (suc i) bs)
  apart_later t = ap first_disconnected_block two ∙ if_false t _ _ ∙ ap first_disconnected_block (sym (drop-cons bs (suc i) none h))

-- the check of a table, at index i
module _ (bs : List Block) (i : ℕ) (h : i < length bs) where
  -- the row at i is a block, and starts below the next
  abbrev pub row_holds : Bool
  row_holds = is_block (get_or bs i none) && starts_above (get_or bs i none).start (drop (suc i) bs)

  row : is_table (drop i bs) ≡ (row_holds && is_table (drop (suc i) bs))
  row = ap is_table (drop-cons bs i none h)

  pub table_later : row_holds ≡ true → is_table (drop i bs) ≡ is_table (drop (suc i) bs)
  table_later t = row ∙ ap (λ (b : Bool). b && is_table (drop (suc i) bs)) t

  pub table_not : row_holds ≡ false → is_table (drop i bs) ≡ false
  table_not t = row ∙ ap (λ (b : Bool). b && is_table (drop (suc i) bs)) t

pub starts_above_at : (k : ℕ) (bs : List Block) (i : ℕ) → i < length bs → starts_above k (drop i bs) ≡ ltb k (get_or bs i none).start
starts_above_at k bs i h = ap (starts_above k) (drop-cons bs i none h)

pub starts_above_end : (k : ℕ) (bs : List Block) (i : ℕ) → length bs ≤ i → starts_above k (drop i bs) ≡ true
starts_above_end k bs i h = ap (starts_above k) (drop_of_length-le bs h)

-- a table's starts ascend
pub and_left : (a b : Bool) → (a && b) ≡ true → a ≡ true
and_left true b h = refl
and_left false b h = h

pub and_right : (a b : Bool) → (a && b) ≡ true → b ≡ true
and_right true b h = h
and_right false b h = let z : ◌≡◌ {A = ℕ} 0 1 = cc h in absurd (omega arith)

above_of : (k : ℕ) (bs : List Block) → starts_above k bs ≡ true → Above start_of k bs
above_of k [] h = tt
above_of k (b ∷ bs) h = ltb-true _ _ h

pub table_rising : (bs : List Block) → is_table bs ≡ true → Rising start_of bs
table_rising [] h = tt
table_rising (b ∷ bs) h =
    let row : (is_block b && starts_above b.start bs) ≡ true = and_left _ _ h in
    (above_of b.start bs (and_right (is_block b) _ row), table_rising bs (and_right (is_block b && starts_above b.start bs) _ h))
