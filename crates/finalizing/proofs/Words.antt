-- The last word of a function, and the one behind it.
use Rattle.std.proofs.Common.{◌≡◌, ℕ, ◌+◌, ◌-◌, ◌<◌, refl, sym, ap, ◌∙◌, Bool, true, false, not, ◌&&◌, ◌||◌, eqb, leb, arith, ne_eqb, eq-eqb, ltb-true}
use Rattle.rules.specs.Choice.{if_false}
use Rattle.rules.specs.Address.{address_of}
use Rattle.rules.specs.Blocks.{last_end}
use Rattle.rules.specs.Branches.{branch_dest}
use Rattle.rules.specs.Check.{check}
use Rattle.rules.specs.Image as images
use Rattle.rules.specs.Image.{Image, contains, code_section, locate, no_word}
use Rattle.rules.specs.Ordered.{self as own, has}
use Rattle.rules.specs.Slices.{Slices}
use Rattle.rules.specs.Words.{primary, blr, nop}
use Rattle.rules.specs.Finalize as rules
use Rattle.rules.proofs.Passes.{checked_of}
use Rattle.rules.proofs.Tests.{and_right}
use Rattle.obj_image.specs.Lent.{Lent, given, image}

-- where there is none, it is no branch
pub no_word_plain : (n : ℕ) → n ≡ no_word → primary n ≡ 18 → ⊥
unfolding primary
no_word_plain n e h = omega arith

-- ---- of a function's lists

module _ (im : Image) (s : Slices) (end : ℕ) (is_end : end ≡ last_end s.blocks) where
  pub last_is : images.word im (address_of end - 4) ≡ rules.last_word im s
  unfolding rules.last_word
  last_is = ap (λ (e : ℕ). images.word im (address_of e - 4)) is_end

  pub after_is : images.word im (address_of end) ≡ rules.word_after im s
  unfolding rules.word_after
  after_is = ap (λ (e : ℕ). images.word im (address_of e)) is_end

  pub no_call : (w : ℕ) → w ≡ images.word im (address_of end - 4) → (primary w ≡ 18 → ⊥) → false ≡ rules.ends_in_call im s
  unfolding rules.ends_in_call
  no_call w e h = rw (ne_eqb (primary (rules.last_word im s)) 18 (λ q. h (ap primary (e ∙ last_is) ∙ q))) refl

  pub calls : (w a d t : ℕ) (r : Bool) → w ≡ images.word im (address_of end - 4) → primary w ≡ 18 → a ≡ address_of end - 4 → d ≡ branch_dest w a → t ≡ locate im d → r ≡ has own t s.function_references → r ≡ rules.ends_in_call im s
  unfolding rules.ends_in_call
  calls w a d t r e h is_a is_d is_t is_r =
      let to : d ≡ branch_dest (rules.last_word im s) (address_of (last_end s.blocks) - 4) =
      is_d ∙ ap (λ (x : ℕ). branch_dest x a) (e ∙ last_is) ∙ ap (branch_dest (rules.last_word im s)) (is_a ∙ ap (λ (x : ℕ). address_of x - 4) is_end)
      in
      rw (eq-eqb (primary (rules.last_word im s)) 18 (ap primary (sym last_is ∙ sym e) ∙ h)) (is_r ∙ ap (λ (x : ℕ). has own x s.function_references) (is_t ∙ ap (locate im) to))

  -- a `blr` or a `nop` behind the end
  pub has_last_is : (x y z : Bool) → x ≡ eqb (images.word im (address_of end - 4)) blr → y ≡ eqb (images.word im (address_of end)) blr → z ≡ eqb (images.word im (address_of end)) nop → ((s.conditional_blr && not x && y) || (s.rfi && z)) ≡ rules.has_last im s
  unfolding rules.has_last
  has_last_is x y z e f g = rw (e, f, g, last_is, after_is) refl

-- ---- it is a code word, and four more fits

outside : (c i x : Bool) → ((c && x && eqb no_word blr) || (i && eqb no_word nop)) ≡ false
outside true true true = refl
outside true true false = refl
outside true false true = refl
outside true false false = refl
outside false true x = refl
outside false false x = refl

no_last : (im : Image) (s : Slices) → contains (code_section im) (address_of (last_end s.blocks)) ≡ false → rules.has_last im s ≡ false
unfolding rules.has_last rules.word_after images.word
no_last im s q = rw (if_false q _ _) (outside s.conditional_blr s.rfi (not (eqb (rules.last_word im s) blr)))

in_code : (im : Image) (s : Slices) → rules.has_last im s ≡ true → contains (code_section im) (address_of (last_end s.blocks)) ≡ true
in_code im s h = by (contains (code_section im) (address_of (last_end s.blocks))) refl
  where
    by : (b : Bool) → contains (code_section im) (address_of (last_end s.blocks)) ≡ b → b ≡ true
    by true q = refl
    by false q = sym (no_last im s q) ∙ h

pub end_low : (l : Lent) → check (given l) ≡ 0 → (s : Slices) → rules.has_last (image l) s ≡ true → address_of (last_end s.blocks) < 0xF000_0000
end_low l checked s h =
    let below : address_of (last_end s.blocks) < (code_section (image l)).base + (code_section (image l)).size =
    ltb-true _ _ (and_right (leb (code_section (image l)).base (address_of (last_end s.blocks))) _ (in_code (image l) s h))
    in
    omega (arith, below, (checked_of (given l) checked).sound.fits)
