-- Answers one after the other.
use mathlib.Core.Path.{◌≡◌, refl, sym, subst}
use Rattle.rules.specs.Choice.{Answer, ok, fault, ◌>>=◌}
use Rattle.rules.specs.Loop.{Holds, good, of_good}

-- in whichever order they are joined
pub bind_assoc : {A B C : Type 0} (a : Answer A) (f : A → Answer B) (g : B → Answer C) → (a >>= f >>= g) ≡ (a >>= λ x. f x >>= g)
unfolding ◌>>=◌
bind_assoc (ok x) f g = refl
bind_assoc (fault n) f g = refl

-- going on in the same way
pub bind_cong : {A B : Type 0} (a : Answer A) (f g : A → Answer B) → ((x : A) → a ≡ ok x → f x ≡ g x) → (a >>= f) ≡ (a >>= g)
unfolding ◌>>=◌
bind_cong (ok x) f g h = h x refl
bind_cong (fault n) f g h = refl

pub bind_ok : {A : Type 0} (a : Answer A) → (a >>= ok) ≡ a
unfolding ◌>>=◌
bind_ok (ok x) = refl
bind_ok (fault n) = refl

-- what a result came from
pub record From {A B : Type 0} (a : Answer A) (f : A → B) (y : B) : Type 0 where
  pub by : A
  pub is : a ≡ ok by
  pub same : f by ≡ y

is_ok : {A : Type 0} → Answer A → Type 0
is_ok (ok x) = Unit {0}
is_ok (fault n) = ⊥

pub from : {A B : Type 0} (a : Answer A) (f : A → B) (y : B) → (a >>= λ x. ok (f x)) ≡ ok y → From a f y
unfolding ◌>>=◌ is_ok
from (ok x) f y e = record { by = x; is = refl; same = of_good (subst (Holds (λ z. f x ≡ z)) e (good refl)) }
from (fault n) f y e = absurd (subst is_ok (sym e) tt)
