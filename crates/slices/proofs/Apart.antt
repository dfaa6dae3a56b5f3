-- The search for a block that stands apart, row by row, and possible blocks added one by one.
use mathlib.Core.Path.{◌≡◌, refl, sym, ap, ◌∙◌}
use mathlib.Core.List.{List, ◌∷◌, ◌++◌}
use mathlib.Core.Bool.{Bool, true, false, not, ◌&&◌}
use Prim.Native.Nat.{ℕ, ◌+◌, ◌≤◌, ◌<◌}
use native.Mathlib.Numerals.{add-one}
use lib.Dec.{ltb}
use lib.ListN.{length, drop, get_or, drop_of_length-le}
use lib.Seq.{drop-cons}
use Rattle.std.specs.Prelude.{Option, Some, None}
use Rattle.std.specs.Option.{option_to_list}
use Rattle.rules.specs.Choice.{if, if_true, if_false, ok, fault, ◌>>=◌}
use Rattle.rules.specs.Blocks.{Block, apart, is_open, first_disconnected_block}
use Rattle.rules.specs.Slices.{Slices, add_possible_block, add_all_possible_blocks}
use Rattle.tables.specs.declared.maps.Row.{Row}
use Rattle.tables.specs.Rows.{row}
use Rattle.slices.specs.Blocks.{block_of, blocks_of, some_closed}

module _ (l : List Row) (i : ℕ) where
  -- the rows that are left, behind the one before them
  abbrev pub left : Option Row → List Row
  left o = option_to_list o ++ drop i l

  pub first_left : i < length l → first_disconnected_block (blocks_of (left None)) ≡ first_disconnected_block (blocks_of (get_or l i (row 0 0) ∷ drop (i + 1) l))
  first_left h = ap (λ r. first_disconnected_block (blocks_of r)) (drop-cons l i (row 0 0) h ∙ ap (λ j. get_or l i (row 0 0) ∷ drop j l) (sym (add-one i)))

  two : (b : Row) → i < length l → blocks_of (left (Some b)) ≡ blocks_of (b ∷ get_or l i (row 0 0) ∷ drop (i + 1) l)
  two b h = ap (λ r. blocks_of (b ∷ r)) (drop-cons l i (row 0 0) h ∙ ap (λ j. get_or l i (row 0 0) ∷ drop j l) (sym (add-one i)))

  pub apart_not : (b : Row) → i < length l → apart (block_of b) (block_of (get_or l i (row 0 0))) ≡ false → first_disconnected_block (blocks_of (left (Some b))) ≡ first_disconnected_block (blocks_of (get_or l i (row 0 0) ∷ drop (i + 1) l))
  apart_not b h e = ap first_disconnected_block (two b h) ∙ if_false e _ _

  closed : (a b : Block) → apart a b ≡ true → is_open a ≡ false
  closed a b e = go (is_open a) e
    where
      go : (x : Bool) → (not x && not (is_open b) && ltb a.end b.start) ≡ true → x ≡ false
      go true e = cc
      go false e = refl

  pub apart_here : (b : Row) → i < length l → apart (block_of b) (block_of (get_or l i (row 0 0))) ≡ true → Some (block_of b) ≡ some_closed (first_disconnected_block (blocks_of (left (Some b))))
  apart_here b h e =
      let found : first_disconnected_block (blocks_of (left (Some b))) ≡ block_of b = ap first_disconnected_block (two b h) ∙ if_true e _ _ in
      rw found (sym (if_false (closed (block_of b) (block_of (get_or l i (row 0 0))) e) _ _))

  pub apart_none : (o : Option Row) → length l ≤ i → None ≡ some_closed (first_disconnected_block (blocks_of (left o)))
  unfolding if
  apart_none None h = rw (drop_of_length-le l h) refl
  apart_none (Some b) h = rw (drop_of_length-le l h) refl

-- possible blocks, one by one
module _ (xs : List ℕ) (i : ℕ) (h : i < length xs) (s : Slices) where
  here : add_all_possible_blocks (drop i xs) s ≡ (add_possible_block (get_or xs i 0) s >>= λ t. add_all_possible_blocks (drop (i + 1) xs) t)
  here = rw (add-one i) (ap (λ r. add_all_possible_blocks r s) (drop-cons xs i 0 h))

  pub added_next : (t : Slices) → ok t ≡ add_possible_block (get_or xs i 0) s → add_all_possible_blocks (drop i xs) s ≡ add_all_possible_blocks (drop (i + 1) xs) t
  unfolding ◌>>=◌
  added_next t e = here ∙ rw (← e) refl

  pub added_not : (n : ℕ) → fault n ≡ add_possible_block (get_or xs i 0) s → fault n ≡ add_all_possible_blocks (drop i xs) s
  unfolding ◌>>=◌
  added_not n e = sym (here ∙ rw (← e) refl)

pub added_all : (xs : List ℕ) (i : ℕ) (s : Slices) → length xs ≤ i → ok s ≡ add_all_possible_blocks (drop i xs) s
added_all xs i s h = rw (drop_of_length-le xs h) refl
