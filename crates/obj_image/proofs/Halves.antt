-- A symbol that is not whole is not aligned. Assumes nothing.
use Prim.Native.Nat.{ℕ, ◌<◌}
use mathlib.Core.Path.{◌≡◌}
use mathlib.Core.Bool.{false}
use mathlib.Core.List.{List}
use native.Mathlib.Omega.{arith}
use lib.ListN.{length}
use borrow.Author.Tests.{ne_eqb}
use Rattle.rules.specs.Choice.{if}
use Rattle.rules.specs.Image.{Image}
use Rattle.rules.specs.Check as rules
use Rattle.obj_image.specs.Lent.{symbol_row}

pub half_function : (im : Image) (c : List ℕ) → length c < 3 → rules.is_function_symbol im (symbol_row c) ≡ false
unfolding if
half_function im c h = rw (ne_eqb (length c) 3 (omega arith))

pub half_object : (im : Image) (c : List ℕ) → length c < 3 → rules.is_object_symbol im (symbol_row c) ≡ false
unfolding if
half_object im c h = rw (ne_eqb (length c) 3 (omega arith))
