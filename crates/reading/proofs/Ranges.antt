-- The numbers of a branch that was read are in their ranges.
use mathlib.Core.Path.{◌≡◌, sym}
use mathlib.Core.Bool.{Bool, true, ◌&&◌}
use mathlib.Core.List.{List}
use Rattle.std.specs.Prelude.{Option, None, Some}
use Prim.Native.Nat.{ℕ, ◌≤◌}
use lib.Dec.{leb, eqb}
use lib.ListN.{length}
use borrow.Author.Tests.{leb-true}
use Rattle.rules.specs.Choice.{by_if}
use Rattle.rules.proofs.Tests.{and_left, and_right}
use Rattle.std.specs.List.{list_all}
use Rattle.reading.specs.Digits.{is_digit}
use Rattle.reading.specs.Frames.{number, tagged, read_frame}
use Rattle.reading.specs.Kinds.{Ranged}
use Rattle.reading.specs.declared.line.Frame.{Frame}

abbrev Small : Option Frame → Type 0
Small None = Unit
Small (Some f) = Ranged f

tagged_small : (t : ℕ) (l : List ℕ) → Small (tagged t l)
unfolding tagged
tagged_small t l =
    by_if Small (eqb t 1) (λ _. by_if Small _ (λ _. tt) (λ _. tt))
    (λ _. by_if Small (eqb t 2) (λ _. by_if Small _ (λ _. tt) (λ _. by_if Small _ (λ _. tt) (λ _. tt)))
    (λ _. by_if Small (eqb t 3) (λ _. by_if Small _ (λ _. tt) (λ _. tt))
    (λ _. by_if Small (eqb t 4) (λ _. by_if Small _ (λ _. tt) (λ _. tt))
    (λ _. by_if Small (eqb t 5) (λ _. by_if Small _ branch_ranged (λ _. tt))
    (λ _. by_if Small (eqb t 6) (λ _. by_if Small _ (λ _. tt) (λ _. tt))
    (λ _. by_if Small (eqb t 7) (λ _. by_if Small _ (λ _. tt) (λ _. tt))
    (λ _. by_if Small (eqb t 8) (λ _. by_if Small _ (λ _. tt) (λ _. tt))
    (λ _. by_if Small (eqb t 9) (λ _. by_if Small _ (λ _. tt) (λ _. tt)) (λ _. tt)))))))))
  where
    branch_ranged : (eqb (length l) 14 && leb (number l 2 2) 1 && leb (number l 4 2) 2) ≡ true → (number l 2 2 ≤ 1) × (number l 4 2 ≤ 2)
    branch_ranged h =
        let first : Bool = eqb (length l) 14 && leb (number l 2 2) 1 in
        (leb-true (number l 2 2) 1 (and_right (eqb (length l) 14) (leb (number l 2 2) 1) (and_left first (leb (number l 4 2) 2) h)), leb-true (number l 4 2) 2 (and_right first (leb (number l 4 2) 2) h))

read_small : (l : List ℕ) → Small (read_frame l)
unfolding read_frame
read_small l = by_if Small (leb 2 (length l) && list_all is_digit l) (λ _. tagged_small (number l 0 2) l) (λ _. tt)

-- what `put_frame` asks of the frame that `read_frame` gave
pub ranged : (f : Frame) (l : List ℕ) → Some f ≡ read_frame l → Ranged f
ranged f l e = rw (sym e) at (read_small l)
