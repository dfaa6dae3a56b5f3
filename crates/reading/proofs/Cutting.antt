-- Where a line ends.
use mathlib.Core.Path.{◌≡◌, refl, sym, ap, ◌∙◌}
use mathlib.Core.List.{List, [], ◌∷◌, ◌++◌, append-nil}
use Prim.Native.Nat.{ℕ, suc, ◌+◌, ◌-◌, ◌<◌, ◌≤◌}
use native.Mathlib.Numerals.{add-one}
use native.Mathlib.Omega.{arith}
use lib.ListN.{length, take, drop, get_or, length-drop, drop_of_length-le}
use lib.Seq.{take-suc, drop-cons, get_or-drop, take_all}
use borrow.Author.Tests.{eq-eqb, ne_eqb}
use Rattle.rules.specs.Choice.{if_true, if_false}
use Rattle.reading.specs.Texts.{add_byte, lines_of, Ends}

-- bytes before the first line
abbrev pub add_bytes : List ℕ → List (List ℕ) → List (List ℕ)
add_bytes [] ls = ls
add_bytes (b ∷ p) ls = add_byte b (add_bytes p ls)

-- to a line that there is
added : (p l : List ℕ) (ls : List (List ℕ)) → add_bytes p (l ∷ ls) ≡ (p ++ l) ∷ ls
added [] l ls = refl
added (b ∷ p) l ls = ap (add_byte b) (added p l ls)

-- to none
added_alone : (p : List ℕ) → 0 < length p → add_bytes p [] ≡ p ∷ []
added_alone [] h = absurd (omega arith)
added_alone (b ∷ []) h = refl
added_alone (b ∷ c ∷ p) h = ap (add_byte b) (added_alone (c ∷ p) (omega arith))

added_last : (p : List ℕ) (b : ℕ) (ls : List (List ℕ)) → add_bytes (p ++ (b ∷ [])) ls ≡ add_bytes p (add_byte b ls)
added_last [] b ls = refl
added_last (a ∷ p) b ls = ap (add_byte a) (added_last p b ls)

-- the bytes from the line's beginning to i are of one line
pub record Within (t : List ℕ) (from i : ℕ) : Type 0 where
  pub low : from ≤ i
  pub high : i ≤ length t
  pub same : lines_of (drop from t) ≡ add_bytes (take (i - from) (drop from t)) (lines_of (drop i t))

module _ (t : List ℕ) (from : ℕ) (lt : from < length t) where
  pub within_start : Within t from from
  within_start =
      let z : from - from ≡ 0 = omega arith in
      record { low = omega arith; high = omega arith; same = rw z refl }

  module _ (i : ℕ) (w : Within t from i) where
    pub within_next : i < length t → (get_or t i 0 ≡ 10 → ⊥) → Within t from (i + 1)
    within_next h n =
        let b : ℕ = get_or t i 0 in
        let next : lines_of (drop i t) ≡ add_byte (get_or t i 0) (lines_of (drop (i + 1) t)) =
        ap lines_of (drop-cons t i 0 h ∙ ap (λ (j : ℕ). get_or t i 0 ∷ drop j t) (sym (add-one i)))
        ∙ if_false (ne_eqb (get_or t i 0) 10 n) _ _
        in
        let d : i + 1 - from ≡ suc (i - from) = omega (arith, w.low) in
        let l : i - from < length (drop from t) = omega (arith, w.low, length-drop from t) in
        let at : from + (i - from) ≡ i = omega (arith, w.low) in
        let longer : take (i + 1 - from) (drop from t) ≡ take (i - from) (drop from t) ++ (get_or t i 0 ∷ []) =
        ap (λ (j : ℕ). take j (drop from t)) d ∙ take-suc (drop from t) (i - from) 0 l
        ∙ ap (λ (x : ℕ). take (i - from) (drop from t) ++ (x ∷ [])) (get_or-drop from t (i - from) 0 ∙ ap (λ (j : ℕ). get_or t j 0) at)
        in
        record {
          low = omega (arith, w.low);
          high = omega arith;
          same =
              w.same ∙ ap (add_bytes (take (i - from) (drop from t))) next
              ∙ sym (added_last (take (i - from) (drop from t)) (get_or t i 0) (lines_of (drop (i + 1) t)))
              ∙ ap (λ (p : List ℕ). add_bytes p (lines_of (drop (i + 1) t))) (sym longer);
        }

    pub ends_here : i < length t → get_or t i 0 ≡ 10 → Ends t from i
    ends_here h n =
        let next : lines_of (drop i t) ≡ [] ∷ lines_of (drop (i + 1) t) =
        ap lines_of (drop-cons t i 0 h ∙ ap (λ (j : ℕ). get_or t i 0 ∷ drop j t) (sym (add-one i)))
        ∙ if_true (eq-eqb (get_or t i 0) 10 n) _ _
        in
        record {
          low = w.low;
          high = w.high;
          first =
              w.same ∙ ap (add_bytes (take (i - from) (drop from t))) next
              ∙ added (take (i - from) (drop from t)) [] (lines_of (drop (i + 1) t))
              ∙ ap (λ (l : List ℕ). l ∷ lines_of (drop (i + 1) t)) (append-nil (take (i - from) (drop from t)));
        }

    pub ends_last : length t ≤ i → Ends t from i
    ends_last h =
        let none_here : drop i t ≡ [] = drop_of_length-le t {i = i} h in
        let none_behind : drop (i + 1) t ≡ [] = drop_of_length-le t {i = i + 1} (omega arith) in
        let all : take (i - from) (drop from t) ≡ drop from t = take_all (i - from) (drop from t) (omega (arith, length-drop from t)) in
        let some : 0 < length (take (i - from) (drop from t)) = omega (arith, ap length all, length-drop from t) in
        record {
          low = w.low;
          high = w.high;
          first =
              w.same ∙ ap (λ (x : List ℕ). add_bytes (take (i - from) (drop from t)) (lines_of x)) none_here
              ∙ added_alone (take (i - from) (drop from t)) some
              ∙ ap (λ (x : List ℕ). take (i - from) (drop from t) ∷ lines_of x) (sym none_behind);
        }
