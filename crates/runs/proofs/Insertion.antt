-- An element put in at a place: those from there on are moved up, over the one behind the last.
use mathlib.Core.Path.{◌≡◌, refl, sym, ap, ap₂, ◌∙◌}
use mathlib.Core.List.{List, [], ◌∷◌, ◌++◌, append_assoc, append-nil}
use Prim.Native.Nat.{ℕ, suc, ◌+◌, ◌-◌, ◌≤◌}
use native.Mathlib.Numerals.{add-one}
use native.Mathlib.Omega.{arith}
use lib.ListN.{length, take, drop, set, length-append, length-drop, drop_of_length-le, take-append-drop}
use lib.Seq.{paste, length-paste, take-add, length-take-le, take-append-le, drop-append-le, take-take, take_at, drop_at, set_split}
use Rattle.std.specs.List.{copy_within, insert}

module _ {A : Type 0} (front : List A) (last item : A) (at n : ℕ) (inside : at ≤ length front) (n_is : n ≡ length front - at) where
  abbrev pub X : List A
  X = front ++ last ∷ []

  long : length X ≡ length front + 1
  long = length-append front (last ∷ [])

  abbrev pub Y : List A
  Y = paste X (at + 1) (drop at X) n

  head : take at Y ≡ take at front
  head =
      ap (take at) (append_assoc (take (at + 1) X) (take n (drop at X)) (drop (at + 1 + n) X))
      ∙ take-append-le at (take (at + 1) X) (take n (drop at X) ++ drop (at + 1 + n) X) (omega (arith, length-take-le (at + 1) X (omega (arith, long))))
      ∙ take-take at (at + 1) X (omega arith)
      ∙ take-append-le at front (last ∷ []) inside

  moved : take n (drop at X) ≡ drop at front
  moved = ap (take n) (drop-append-le at front (last ∷ []) inside) ∙ take_at (drop at front) (last ∷ []) n (length-drop at front ∙ sym n_is)

  tail : drop (suc at) Y ≡ drop at front
  tail =
      ap₂ (λ (i : ℕ) (l : List A). drop i l) (sym (add-one at)) (append_assoc (take (at + 1) X) (take n (drop at X)) (drop (at + 1 + n) X))
      ∙ drop_at (take (at + 1) X) (take n (drop at X) ++ drop (at + 1 + n) X) (at + 1) (length-take-le (at + 1) X (omega (arith, long)))
      ∙ ap₂ (λ (a b : List A). a ++ b) moved (drop_of_length-le X (omega (arith, long, n_is)))
      ∙ append-nil (drop at front)

  size : length Y ≡ length X
  size = length-paste X (at + 1) (drop at X) n (omega (arith, long, n_is)) (omega (arith, length-drop at X, long, n_is))

  pub put_in : set Y at item ≡ insert front at item
  put_in = set_split Y at item (omega (arith, size, long)) ∙ ap₂ (λ (a b : List A). a ++ item ∷ b) head tail

-- nothing is moved
pub kept : {A : Type 0} (l : List A) (from until to : ℕ) → from ≡ to → l ≡ copy_within l from until to
kept {A = A} l from until to e = rw e (sym (take-append-drop (to + (until - to)) l) ∙ ap (λ (s : List A). s ++ drop (to + (until - to)) l) (take-add to (until - to) l))
