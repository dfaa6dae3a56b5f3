-- The last of some ways on written before the others.
use mathlib.Core.Path.{◌≡◌, refl, sym, ap, ap₂, ◌∙◌}
use mathlib.Core.List.{List, [], ◌∷◌, ◌++◌, append_assoc, append-nil, map}
use Prim.Native.Nat.{ℕ, zero, suc, ◌+◌, ◌-◌, ◌<◌, ◌≤◌}
use native.Mathlib.Nat.{zero-add}
use native.Mathlib.Numerals.{add-one}
use native.Mathlib.Omega.{arith}
use lib.ListN.{length, take, drop, get_or, set, length-map, drop_of_length-le}
use lib.Seq.{paste, paste-suc, length-paste, length-take-le, take_all, drop_at}
use Rattle.std.proofs.lemmas.List.{get_or-map}
use Rattle.std.specs.List.{copy_within}
use Rattle.tables.specs.declared.multimap.Way.{Way}
use Rattle.tables.specs.Groups.{way}

module _ (old : List Way) (k : ℕ) (targets : List ℕ) (few : length targets ≤ length old) where
  -- the others moved up
  abbrev pub M : List Way
  M = copy_within old 0 (length old - length targets) (length targets)

  abbrev pub W : List Way
  W = map (way k) targets

  size : length M ≡ length old
  size = length-paste old (length targets) (drop 0 old) (length old - length targets - 0) (omega arith) (omega arith)

  pub forward_next : (ways : List Way) (i : ℕ) → i < length targets → ways ≡ paste M 0 W i → set ways i (way k (get_or targets i 0)) ≡ paste M 0 W (i + 1)
  forward_next ways i lt e =
      ap₂ (λ (l : List Way) (w : Way). set l i w) e (sym (get_or-map (way k) targets i 0 (way k 0) lt))
      ∙ ap (λ (j : ℕ). set (paste M 0 W i) j (get_or W i (way k 0))) (sym (zero-add i))
      ∙ paste-suc M 0 W i (way k 0) (omega (arith, size)) (omega (arith, length-map targets (way k)))
      ∙ ap (λ (j : ℕ). paste M 0 W j) (sym (add-one i))

  behind : drop (length targets) M ≡ take (length old - length targets) old
  behind =
      let n = length targets in
      let o = length old - length targets in
      ap (drop n) (append_assoc (take n old) (take (o - 0) (drop 0 old)) (drop (n + (o - 0)) old))
      ∙ drop_at (take n old) (take (o - 0) (drop 0 old) ++ drop (n + (o - 0)) old) n (length-take-le n old few)
      ∙ ap (λ (l : List Way). take (o - 0) (drop 0 old) ++ l) (drop_of_length-le old (omega arith))
      ∙ append-nil (take (o - 0) (drop 0 old))
      ∙ (let z : o - 0 ≡ o = omega arith in ap (λ (j : ℕ). take j old) z)

  pub forward_all : (ways : List Way) (i : ℕ) → i ≡ length targets → drop (length old - length targets) old ≡ W → ways ≡ paste M 0 W i → ways ≡ drop (length old - length targets) old ++ take (length old - length targets) old
  forward_all ways i e last is =
      is
      ∙ ap (λ (j : ℕ). paste M 0 W j) e
      ∙ ap₂ (λ (a b : List Way). a ++ b) (take_all (length targets) W (omega (arith, length-map targets (way k))) ∙ sym last) (ap (λ (j : ℕ). drop j M) (zero-add (length targets)) ∙ behind)
