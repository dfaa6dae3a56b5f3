-- A function that begins between two addresses.
use Rattle.std.proofs.Common.{◌≡◌, ℕ, ◌+◌, ◌<◌, ◌≤◌, sym, ◌∙◌, refl, Bool, true, false, ◌&&◌, ◌||◌, List, [], ◌∷◌, leb, arith}
use borrow.Author.Tests.{lt-leb, leb-true}
use Rattle.rules.specs.Choice.{any, if_false}
use Rattle.rules.specs.Known.{Entry, any_between}
use Rattle.rules.specs.Slices.{Slices}
use Rattle.rules.specs.Step.{Around}
use Rattle.rules.specs.TailCall as rules

none_of : {A : Type 0} (p : A → Bool) (l : List A) → ((x : A) → p x ≡ false) → any p l ≡ false
none_of p [] h = refl
none_of p (x ∷ l) h = if_false (h x) _ _ ∙ none_of p l h

-- nothing lies from a number up to one below it
not_between : (low high x : ℕ) → high < low → (leb low x && leb x high) ≡ false
not_between low high x h = by (leb low x) refl
  where
    by : (t : Bool) → leb low x ≡ t → (t && leb x high) ≡ false
    by true q = let l : low ≤ x = leb-true _ _ q in lt-leb x high (omega arith)
    by false q = refl

module _ (e : Around) (k : ℕ) (s : Slices) where
  pub between : (low : ℕ) (a b : Bool) → low ≡ e.start + 4 → a ≡ any (λ r. leb low r && leb r k) s.function_references → b ≡ any_between low k e.entries → (a || b) ≡ rules.is_referred e k s
  unfolding rules.is_referred
  between low a b l f g = rw (f, g, l) refl

  pub none_between : k < e.start + 4 → false ≡ rules.is_referred e k s
  unfolding rules.is_referred any_between
  none_between h =
      let p = none_of (λ r. leb (e.start + 4) r && leb r k) s.function_references (λ x. not_between (e.start + 4) k x h) in
      let q = none_of (λ (x : Entry). leb (e.start + 4) x.entry && leb x.entry k) e.entries (λ x. not_between (e.start + 4) k x.entry h) in
      sym (rw (p, q) refl)
