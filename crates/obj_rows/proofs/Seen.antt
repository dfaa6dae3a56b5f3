-- What the key of an address comes to for the image of the sections alone. Assumes nothing.
use Prim.Native.Nat.{ℕ, suc, ◌%◌}
use mathlib.Core.Path.{◌≡◌, refl, sym, ap, ◌∙◌}
use mathlib.Core.Bool.{Bool, true, false, ◌&&◌, not}
use mathlib.Core.List.{List, [], ◌∷◌}
use native.Mathlib.Omega.{arith}
use lib.Dec.{ltb, eqb}
use borrow.Author.Tests.{ne_eqb}
use Rattle.rules.specs.Choice.{if, any}
use Rattle.rules.specs.Address.{key}
use Rattle.rules.specs.Image as images
use Rattle.rules.specs.Image.{contains, locate, locate_from}
use Rattle.rules.specs.Check as rules
use Rattle.obj_image.specs.Lent.{Lent, lent, image, seen}
use Rattle.obj_rows.specs.Symbols.{symbol_of}
use Rattle.obj_rows.specs.declared.symbols.Symbol.{Symbol}

-- an address that lies in a section has a key
pub any_located : (i : ℕ) (ss : List images.Section) (a : ℕ) → any (λ s. contains s a) ss ≡ not (eqb (locate_from (suc i) ss a) 0)
unfolding if
any_located i [] a = refl
any_located i (s ∷ ss) a = go (contains s a) (any_located (suc i) ss a)
  where
    go : (b : Bool) → any (λ s. contains s a) ss ≡ not (eqb (locate_from (suc (suc i)) ss a) 0) → if b true (any (λ s. contains s a) ss) ≡ not (eqb (if b (key (suc i) a) (locate_from (suc (suc i)) ss a)) 0)
    go true e = rw (ne_eqb (key (suc i) a) 0 (λ q. omega arith))
    go false e = e

-- where r is the key of a
abbrev pub Located : List ℕ → ℕ → ℕ → Type 0
Located s a r = (l : Lent) → l.sections ≡ s → r ≡ locate (image l) a

-- the sections alone
unfoldable pub only : List ℕ → Lent
only s = lent s [] [] [] [] [] []

module _ (s : List ℕ) where
  pub inside_is : (a r : ℕ) → Located s a r → (eqb (a % 4) 0 && not (eqb r 0)) ≡ rules.is_inside (seen s) a
  unfolding locate only
  inside_is a r h = ap (λ (t : Bool). eqb (a % 4) 0 && t) (ap (λ (k : ℕ). not (eqb k 0)) (h (only s) refl) ∙ sym (any_located 0 (seen s).sections a))

  pub below_is : (x y : Symbol) (r t : ℕ) → Located s x.address r → Located s y.address t → ltb r t ≡ rules.is_below (seen s) (symbol_of x) (symbol_of y)
  unfolding only
  below_is x y r t h k = rw (h (only s) refl, k (only s) refl) refl
