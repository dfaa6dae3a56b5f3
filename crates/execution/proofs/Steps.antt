-- One step of a walk.
use Rattle.std.proofs.Common.{◌≡◌, ℕ, refl, sym, ap, ◌∙◌, Bool, true, false}
use Rattle.std.specs.Prelude.{eqb, not, ◌||◌}
use borrow.Author.Tests.{eq-eqb, ne_eqb}
use Rattle.rules.specs.Choice.{if, if_true, if_false, ok, fault}
use Rattle.rules.specs.Address.{address_of, section_of}
use Rattle.rules.specs.Image.{Image, contains, section_at, code_number}
use Rattle.rules.specs.Step.{Around, Walk, at, seen, with_place}
use Rattle.rules.specs.Walk as rules

-- ---- a pending address

module _ (e : Around) (im : Image) (i : e.image ≡ im) (k : ℕ) (w : Walk) (b : Bool) (is_b : b ≡ contains (section_at im k) (address_of k)) where
  pub outside : b ≡ false → fault 15 ≡ rules.take_pending e k w
  unfolding rules.take_pending
  outside h = sym (if_false (ap (λ (x : Image). contains (section_at x k) (address_of k)) i ∙ sym is_b ∙ h) _ _)

  passed : (t : Bool) → (not (eqb (section_of k) (code_number im)) || seen im k w) ≡ t → b ≡ true → if t (ok w) (ok (with_place w (at k k))) ≡ rules.take_pending e k w
  unfolding rules.take_pending
  passed t q h =
      sym (if_true (ap (λ (x : Image). contains (section_at x k) (address_of k)) i ∙ sym is_b ∙ h) _ _ ∙
      ap (λ (x : Image). if (not (eqb (section_of k) (code_number x)) || seen x k w) (ok w) (ok (with_place w (at k k)))) i ∙
      ap (λ (x : Bool). if x (ok w) (ok (with_place w (at k k)))) q)

  module _ (h : b ≡ true) (section number : ℕ) (is_section : section ≡ section_of k) (is_number : number ≡ code_number im) where
    pub elsewhere : (section ≡ number → ⊥) → ok w ≡ rules.take_pending e k w
    unfolding if
    elsewhere n = passed true (rw (← is_section, ← is_number, ne_eqb section number n) refl) h

    module _ (q : section ≡ number) (s : Bool) (is_s : s ≡ seen im k w) where
      seen_or_not : (t : Bool) → s ≡ t → (not (eqb (section_of k) (code_number im)) || seen im k w) ≡ t
      seen_or_not t p = rw (← is_section, ← is_number, eq-eqb section number q) (sym is_s ∙ p)

      pub walked_before : s ≡ true → ok w ≡ rules.take_pending e k w
      unfolding if
      walked_before p = passed true (seen_or_not true p) h

      pub taken : s ≡ false → ok (with_place w (at k k)) ≡ rules.take_pending e k w
      unfolding if
      taken p = passed false (seen_or_not false p) h
