-- Symbols: what each test and each loop over them has found at its returns. Assumes nothing.
use Prim.Native.Nat.{ℕ, ◌+◌, ◌/◌, ◌%◌, ◌≤◌, ◌<◌}
use mathlib.Core.Path.{◌≡◌, refl, sym, ap, ◌∙◌}
use mathlib.Core.Bool.{Bool, true, false, ◌&&◌, and-true}
use mathlib.Core.List.{List, [], ◌∷◌, map}
use native.Mathlib.Omega.{arith}
use lib.Dec.{leb, eqb}
use borrow.Author.Tests.{lt-leb}
use lib.ListN.{length, drop, get_or, length-map}
use Rattle.std.specs.Simd.{first_chunks}
use Rattle.rules.specs.Choice.{if}
use Rattle.rules.specs.Image as images
use Rattle.rules.specs.Given.{SymbolRow, image_of}
use Rattle.rules.specs.Given as givens
use Rattle.rules.specs.Check as rules
use Rattle.rules.specs.JumpTable.{known_size}
use Rattle.obj_image.specs.Lent.{Lent, rows, symbol_row, given, image}
use Rattle.obj_rows.specs.Symbols.{symbol_of, read_symbol}
use Rattle.obj_image.proofs.Rows.{row_here, rows_chunks, not_whole, middle_false}

-- a symbol's row, by its numbers
pub symbol_here : (l : List ℕ) (at : ℕ) → at + 3 ≤ length l → rows 3 symbol_row (drop at l) ≡ symbol_of (record { address = get_or l at 0; size = get_or l (at + 1) 0; known = get_or l (at + 2) 0 }) ∷ rows 3 symbol_row (drop (at + 3) l)
unfolding if
symbol_here l at h = row_here l at 2 symbol_row h

-- whole rows, as std cuts them
pub symbol_rows : (s : List ℕ) → length s % 3 ≡ 0 → (c : List (List ℕ)) → c ≡ first_chunks 3 (length s / 3) s → rows 3 symbol_row s ≡ map read_symbol c
unfolding if
symbol_rows s whole c cut = rows_chunks 3 (omega arith) symbol_row read_symbol (λ x h. rw h refl) s whole ∙ ap (map read_symbol) (sym cut)

-- ---- the known size of an object symbol

abbrev pub size_in : ℕ → List SymbolRow → ℕ
size_in a rs = known_size a (map givens.symbol_of rs)

pub sized : (s : List ℕ) (a r : ℕ) → r ≡ size_in a (rows 3 symbol_row s) → (l : Lent) → l.objects ≡ s → r ≡ known_size a (image l).objects
unfolding image_of given
sized s a r h l e = h ∙ sym (ap (λ (t : List ℕ). size_in a (rows 3 symbol_row t)) e)

-- ---- the tests

module _ (im : images.Image) (p : SymbolRow → Bool) (s : List ℕ) where
  pub symbols_are : length s % 3 ≡ 0 → (c : List (List ℕ)) → c ≡ first_chunks 3 (length s / 3) s → (b d : Bool) → b ≡ rules.all p (map read_symbol c) → d ≡ rules.chained (rules.is_below im) (map read_symbol c) → (leb (length c) 1024 && b && d) ≡ rules.are_symbols im p (rows 3 symbol_row s)
  symbols_are whole c cut b d e g = rw (symbol_rows s whole c cut, length-map, e, g) refl

  pub symbols_broken : ((c : List ℕ) → length c < 3 → p (symbol_row c) ≡ false) → (length s % 3 ≡ 0 → ⊥) → false ≡ rules.are_symbols im p (rows 3 symbol_row s)
  symbols_broken short h =
      let k : false ≡ rules.all p (rows 3 symbol_row s) = not_whole 3 (omega arith) symbol_row p short s h in
      rw (← k) (sym (middle_false (leb (length (rows 3 symbol_row s)) 1024) _))

-- ---- the entry point

module _ (im : images.Image) where
  pub no_entry : (l : List ℕ) → length l ≡ 0 → true ≡ rules.are_entries im l
  no_entry [] h = refl
  no_entry (a ∷ l) h = absurd (omega arith)

  pub one_entry : (l : List ℕ) (b : Bool) → length l ≡ 1 → b ≡ images.contains (images.code_section im) (get_or l 0 0) → (eqb (get_or l 0 0 % 4) 0 && b) ≡ rules.are_entries im l
  one_entry [] b h e = absurd (omega arith)
  one_entry (a ∷ []) b h e = rw e (sym (and-true _))
  one_entry (a ∷ c ∷ l) b h e = absurd (omega arith)

  pub more_entries : (l : List ℕ) → (length l ≡ 0 → ⊥) → (length l ≡ 1 → ⊥) → false ≡ rules.are_entries im l
  more_entries [] h k = absurd (h refl)
  more_entries (a ∷ []) h k = absurd (k refl)
  more_entries (a ∷ c ∷ l) h k = rw (lt-leb (length (a ∷ c ∷ l)) 1 (omega arith)) refl
