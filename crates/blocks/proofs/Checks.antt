-- What the tests of a table ensure at each return.
use mathlib.Core.Path.{◌≡◌, sym, ◌∙◌}
use mathlib.Core.List.{List}
use mathlib.Core.Bool.{Bool, true, false, ◌||◌}
use Prim.Native.Nat.{ℕ, suc, ◌+◌, ◌<◌, ◌≤◌}
use native.Mathlib.Numerals.{add-one}
use native.Mathlib.Omega.{arith}
use lib.Dec.{ltb}
use lib.ListN.{length, drop, get_or}
use borrow.Author.Tests.{eq-eqb, ne_eqb}
use Rattle.rules.specs.Blocks.{block, apart, first_disconnected_block}
use Rattle.rules.proofs.Blocks.{none, apart_here, apart_later, apart_never}
use Rattle.blocks.specs.Table.{rows}
use Rattle.blocks.proofs.Rows.{length_rows, row_at}

-- an `or` whose left side is false
pub or_right : (a b : Bool) → a ≡ false → b ≡ (a || b)
or_right a b h = sym (rw h)

module _ (s e t u : ℕ) where
  pub open_first : e ≡ 0 → false ≡ apart (block s e) (block t u)
  open_first z = sym (rw (eq-eqb e 0 z))

  pub open_second : (e ≡ 0 → ⊥) → u ≡ 0 → false ≡ apart (block s e) (block t u)
  open_second h z = sym (rw (ne_eqb e 0 h, eq-eqb u 0 z))

  pub both_closed : (e ≡ 0 → ⊥) → (u ≡ 0 → ⊥) → ltb e t ≡ apart (block s e) (block t u)
  both_closed h z = sym (rw (ne_eqb e 0 h, ne_eqb u 0 z))

-- the search for a block that stands apart, at index i
module _ (n i j : ℕ) (ss es : List ℕ) (hs : n ≤ length ss) (he : n ≤ length es) (next : j ≡ i + 1) (so_far : first_disconnected_block (rows n ss es) ≡ first_disconnected_block (drop i (rows n ss es))) where
  long : length (rows n ss es) ≡ n
  long = length_rows n ss es hs he

  at : j ≡ suc i
  at = next ∙ add-one i

  module _ (b : Bool) (lt : j < n) (is : b ≡ apart (block (get_or ss i 0) (get_or es i 0)) (block (get_or ss j 0) (get_or es j 0))) where
    rows_apart : apart (get_or (rows n ss es) i none) (get_or (rows n ss es) (suc i) none) ≡ b
    rows_apart = rw (row_at n ss es hs he i (omega arith), row_at n ss es hs he (suc i) (omega arith), ← at) (sym is)

    pub found_apart : b ≡ true → block (get_or ss i 0) (get_or es i 0) ≡ first_disconnected_block (rows n ss es)
    found_apart t =
        sym (so_far
        ∙ apart_here (rows n ss es) i (omega (arith, long, at)) (rows_apart ∙ t)
        ∙ row_at n ss es hs he i (omega arith))

    pub later_apart : b ≡ false → first_disconnected_block (rows n ss es) ≡ first_disconnected_block (drop j (rows n ss es))
    later_apart t = rw at (so_far ∙ apart_later (rows n ss es) i (omega (arith, long, at)) (rows_apart ∙ t))

  pub end_apart : n ≤ j → block 0 0 ≡ first_disconnected_block (rows n ss es)
  end_apart h = sym (so_far ∙ apart_never (rows n ss es) i (omega (arith, long, at)))
