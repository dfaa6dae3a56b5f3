-- What is left of a rising list where a test holds of some.
use Rattle.std.proofs.Common.{◌≡◌, ℕ, suc, ◌<◌, ◌≤◌, refl, ◌∙◌, Bool, true, false, not, cond, ltb, List, [], ◌∷◌, length, arith, lt-ltb}
use Rattle.std.specs.List.Retain.{RetainsInTurn}
use Rattle.std.proofs.lemmas.Bool.Decides.{nat_tests}
use Rattle.rules.specs.Choice.{if, by_if, any, filter}
use Rattle.rules.specs.Ordered.{Above, Rising}
use Rattle.rules.proofs.SettlingEnds.{filter_few}

-- a closure that asks the test of each, and changes nothing
pub kept_in_turn : {S X : Type 0} (R : S → X → Bool → S → X → Type 0) (p : X → Bool) (f : S) → ((x : X) (b : Bool) (t : S) (y : X) → R f x b t y → (b ≡ p x) × (y ≡ x) × (t ≡ f)) → (xs ys : List X) → RetainsInTurn R f xs ys → ys ≡ filter p xs
unfolding if
kept_in_turn R p f says [] ys r = r
kept_in_turn R p f says (x ∷ xs) ys r =
    let q = says x r.0 r.1 r.2 r.3 in
    let rest : r.4 ≡ filter p xs = kept_in_turn R p f says xs r.4 (rw q.2 at r.5) in
    r.6 ∙ rw (q.0, q.1, rest) (chosen (p x) (x ∷ filter p xs) (filter p xs))
  where
    chosen : {X : Type 0} (b : Bool) (m n : List X) → cond b m n ≡ if b m n
    chosen true m n = refl
    chosen false m n = refl

module _ {A : Type 0} (key : A → ℕ) (p : A → Bool) where
  above_further : (j k : ℕ) (l : List A) → j < k → Above key k l → Above key j l
  above_further j k [] h a = tt
  above_further j k (y ∷ l) h a = omega arith

  kept_above : (k : ℕ) (l : List A) → Above key k l → Rising key l → Above key k (filter p l)
  kept_above k [] a r = tt
  kept_above k (x ∷ l) a r =
      by_if (λ (m : List A). Above key k m) (p x) {x = x ∷ filter p l} {y = filter p l} (λ _. a) (λ _. kept_above k l (above_further k (key x) l a r.0) r.1)

  pub kept_rising : (l : List A) → Rising key l → Rising key (filter p l)
  kept_rising [] r = tt
  kept_rising (x ∷ l) r =
      by_if (λ (m : List A). Rising key m) (p x) {x = x ∷ filter p l} {y = filter p l} (λ _. (kept_above (key x) l r.0 r.1, kept_rising l r.1)) (λ _. kept_rising l r.1)

-- fewer are left where there was one
pub fewer_is : (p : ℕ → Bool) (l : List ℕ) → ltb (length (filter (λ x. not (p x)) l)) (length l) ≡ any p l
unfolding if
fewer_is p [] = refl
fewer_is p (x ∷ l) = go (p x) (fewer_is p l)
  where
    one_more : (a b : ℕ) → ltb (suc a) (suc b) ≡ ltb a b
    one_more a b = grind (arith, nat_tests)

    go : (b : Bool) → ltb (length (filter (λ x. not (p x)) l)) (length l) ≡ any p l → ltb (length (if (not b) (x ∷ filter (λ x. not (p x)) l) (filter (λ x. not (p x)) l))) (suc (length l)) ≡ if b true (any p l)
    go true e = let few : length (filter (λ x. not (p x)) l) ≤ length l = filter_few (λ x. not (p x)) l in lt-ltb _ _ (omega arith)
    go false e = one_more _ _ ∙ e
