-- Elements moved up by one, and another put in the place that is free then.
use Rattle.std.proofs.Common.{◌≡◌, ℕ, zero, suc, ◌+◌, ◌-◌, ◌<◌, ◌≤◌, List, [], ◌∷◌, ◌++◌, length, take, drop, refl, sym, ap, ◌∙◌, arith}
use Rattle.std.proofs.lemmas.List.{take-append-le, take-take, drop-take, length-take-le, length-drop}
use mathlib.Core.Path.{ap₂}
use mathlib.Core.List.{append_assoc}
use native.Mathlib.Numerals.{add-one}
use lib.ListN.{set}
use lib.Seq.{paste, take-append-add}

put_last : (xs rest : List ℕ) (i a : ℕ) → i < length xs → set (take (suc i) xs ++ rest) i a ≡ take i xs ++ a ∷ rest
put_last [] rest i a h = absurd (omega arith)
put_last (x ∷ xs) rest zero a h = refl
put_last (x ∷ xs) rest (suc i) a h = ap (λ l. x ∷ l) (put_last xs rest i a (omega arith))

-- of the first n, those from i on
pub placed : (xs : List ℕ) (n i a : ℕ) → i ≤ n → n < length xs → take (n + 1) (set (paste xs (i + 1) (drop i xs) (n - i)) i a) ≡ take i (take n xs) ++ a ∷ drop i (take n xs)
placed xs n i a le lt =
    let long : length (take i xs) ≡ i = length-take-le i xs (omega arith) in
    let few : length (take m (drop i xs)) ≡ m = length-take-le m (drop i xs) (omega (arith, length-drop i xs)) in
    ap (λ k. take (n + 1) (set (take k xs ++ take m (drop i xs) ++ behind) i a)) (add-one i)
    ∙ ap (λ l. take (n + 1) (set l i a)) (append_assoc (take (suc i) xs) (take m (drop i xs)) behind)
    ∙ ap (take (n + 1)) (put_last xs (take m (drop i xs) ++ behind) i a (omega arith))
    ∙ ap (λ k. take k (take i xs ++ a ∷ (take m (drop i xs) ++ behind))) {x = n + 1} {y = length (take i xs) + suc m} (omega (arith, long))
    ∙ take-append-add (take i xs) (a ∷ (take m (drop i xs) ++ behind)) (suc m)
    ∙ ap (λ l. take i xs ++ a ∷ l) (take-append-le m (take m (drop i xs)) behind (omega (arith, few)) ∙ take-take m m (drop i xs) (omega arith))
    ∙ sym (ap₂ (λ (u v : List ℕ). u ++ a ∷ v) (take-take i n xs le) (ap (λ k. drop i (take k xs)) {x = n} {y = i + m} (omega arith) ∙ drop-take i m xs))
  where
    m : ℕ
    m = n - i

    behind : List ℕ
    behind = drop (i + 1 + (n - i)) xs
