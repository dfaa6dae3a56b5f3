-- Options that stand for numbers of which 0 is none.
use Rattle.std.proofs.Common.{◌≡◌, ◌≢◌, ℕ, Bool, true, false, refl, sym, ap, ◌∙◌}
use Rattle.std.specs.Prelude.{Option, Some, None, eqb, not, ◌&&◌, ◌||◌, unwrap_or}
use Rattle.std.specs.Option.{option_or}
use borrow.Author.Tests.{ne_eqb, eqb-true, eqb-false}
use Rattle.rules.specs.Choice.{if, by_if, if_true, if_false}
use Rattle.obj_info.specs.Info.{some_nonzero}
use Rattle.slices.specs.Some.{or_zero}
use Rattle.jump_tables.proofs.Readings.{chose_some, chose_none}

-- the number, or another where it is 0
pub unwrapped : (n d : ℕ) (o : Option ℕ) → o ≡ some_nonzero n → unwrap_or o d ≡ if (eqb n 0) d n
unfolding if
unwrapped n d o e = rw e (by_if (λ (r : Option ℕ). unwrap_or r d ≡ if (eqb n 0) d n) (eqb n 0) (λ h. rw h refl) (λ h. rw h refl))

-- where it is one, and where it is none
pub found : (n x : ℕ) → Some x ≡ some_nonzero n → (n ≡ x) × (n ≢ 0)
unfolding if
found n x e = go (eqb n 0) refl e
  where
    go : (b : Bool) → eqb n 0 ≡ b → Some x ≡ if b None (Some n) → (n ≡ x) × (n ≢ 0)
    go true h e = cc
    go false h e = (cc, eqb-false n 0 h)

pub not_found : (n : ℕ) → None ≡ some_nonzero n → n ≡ 0
unfolding if
not_found n e = go (eqb n 0) refl e
  where
    go : (b : Bool) → eqb n 0 ≡ b → None ≡ if b None (Some n) → n ≡ 0
    go true h e = eqb-true n 0 h
    go false h e = cc

-- the first of two
pub first_of : (o l : Option ℕ) (n : ℕ) → o ≡ some_nonzero (unwrap_or o 0) → l ≡ some_nonzero n → option_or o l ≡ some_nonzero (if (eqb (unwrap_or o 0) 0) n (unwrap_or o 0))
first_of None l n e f = f ∙ ap some_nonzero (sym (if_true refl _ _))
first_of (Some x) l n e f = e ∙ ap some_nonzero (sym (if_false (ne_eqb x 0 (found x x e).1) _ _))

pub zeroed : (o : Option ℕ) (n : ℕ) → o ≡ some_nonzero n → or_zero o ≡ n
unfolding if
zeroed o n e = rw e (go (eqb n 0) refl)
  where
    go : (b : Bool) → eqb n 0 ≡ b → or_zero (if b None (Some n)) ≡ n
    go true h = sym (eqb-true n 0 h)
    go false h = refl

pub unwrapped_zero : (o : Option ℕ) → or_zero o ≡ unwrap_or o 0
unwrapped_zero None = refl
unwrapped_zero (Some x) = refl

-- whether it is another than s
pub other_found : (n x s : ℕ) → Some x ≡ some_nonzero n → not (eqb x s) ≡ (not (eqb n 0) && not (eqb n s))
other_found n x s e = let p = found n x e in rw (p.0, ne_eqb x 0 (rw p.0 at p.1)) refl

pub other_not_found : (n s : ℕ) → None ≡ some_nonzero n → false ≡ (not (eqb n 0) && not (eqb n s))
other_not_found n s e = rw (not_found n e) refl

-- a test of what was found
pub holds_there : (b : Bool) (n i : ℕ) (v : ℕ → Bool) → Some i ≡ if b (Some n) None → v i ≡ (b && v n)
holds_there b n i v e = let q = chose_some b n i e in rw (q.0, q.1) refl

pub holds_not : (b : Bool) (n : ℕ) (v : ℕ → Bool) → None ≡ if b (Some n) None → false ≡ (b && v n)
holds_not b n v e = rw (chose_none b n e) refl

-- the first of two tests, or the second
pub or_first : (a b : Bool) → a ≡ true → a ≡ (a || b)
or_first true b e = refl
or_first false b e = cc

pub or_second : (a b : Bool) → a ≡ false → b ≡ (a || b)
or_second true b e = cc
or_second false b e = refl

pub and_second : (a b : Bool) → a ≡ true → b ≡ (a && b)
and_second true b e = refl
and_second false b e = cc

pub and_first : (a b : Bool) → a ≡ false → a ≡ (a && b)
and_first true b e = cc
and_first false b e = refl

pub not_not : (b : Bool) → not (not b) ≡ b
not_not true = refl
not_not false = refl

-- an address that was looked up, or 0
pub located : (o : Option ℕ) (n : ℕ) → o ≡ some_nonzero n → unwrap_or o 0 ≡ n
located o n e = sym (unwrapped_zero o) ∙ zeroed o n e
