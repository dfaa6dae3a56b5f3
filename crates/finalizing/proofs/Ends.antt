-- What becomes of a function's lists at its end.
use Rattle.std.proofs.Common.{◌≡◌, ℕ, ◌+◌, refl, sym, ap, ◌∙◌, Bool, true, false, ◌&&◌, ◌||◌, List}
use Rattle.rules.specs.Choice.{if_true, if_false, ok, any}
use Rattle.rules.specs.Image.{Image}
use Rattle.rules.specs.Ordered.{has}
use Rattle.rules.specs.Blocks.{last_start, last_end}
use Rattle.rules.specs.Slices.{Slices, set_block}
use Rattle.rules.specs.Known.{Entry, entry_of}
use Rattle.rules.specs.Finalize as rules

-- ---- a conditional end

or_and_false : (c e a : Bool) → c ≡ false → e ≡ false → false ≡ (c || (e && a))
or_and_false c e a h g = rw (h, g) refl

or_and_true : (c e a r : Bool) → c ≡ false → e ≡ true → r ≡ a → r ≡ (c || (e && a))
or_and_true c e a r h g f = rw (h, g) f

module _ (im : Image) (s : Slices) where
  pub recorded : s.conditional_blr ≡ true → true ≡ rules.is_conditional im s
  unfolding rules.is_conditional
  recorded h = rw h refl

  module _ (plain : s.conditional_blr ≡ false) (calls : Bool) (is_calls : calls ≡ rules.ends_in_call im s) where
    pub plain_end : calls ≡ false → false ≡ rules.is_conditional im s
    unfolding rules.is_conditional
    plain_end h = or_and_false _ _ _ plain (sym is_calls ∙ h)

    pub two_branches : (key : ℕ) (r : Bool) → calls ≡ true → key ≡ last_start s.blocks → r ≡ any (rules.branches_to im key) s.branches → r ≡ rules.is_conditional im s
    unfolding rules.is_conditional
    two_branches key r h is_key is_r =
        or_and_true _ _ _ r plain (sym is_calls ∙ h) (is_r ∙ ap (λ (k : ℕ). any (rules.branches_to im k) s.branches) is_key)

-- ---- the last word

module _ (im : Image) (es : List Entry) (s : Slices) (end : ℕ) (is_end : end ≡ last_end s.blocks) where
  test : (b : Bool) → has entry_of end es ≡ b → has entry_of (last_end s.blocks) es ≡ b
  test b e = ap (λ (x : ℕ). has entry_of x es) (sym is_end) ∙ e

  pub no_last : rules.has_last im s ≡ false → ok s ≡ rules.add_last im es s
  unfolding rules.add_last
  no_last h = sym (if_false (rw h refl) _ _)

  module _ (h : rules.has_last im s ≡ true) where
    pub entry_last : has entry_of end es ≡ true → ok s ≡ rules.add_last im es s
    unfolding rules.add_last
    entry_last f = sym (if_false (rw (h, test true f) refl) _ _)

    pub block_last : has entry_of end es ≡ false → set_block end (end + 4) s ≡ rules.add_last im es s
    unfolding rules.add_last
    block_last f = ap (λ (x : ℕ). set_block x (x + 4) s) is_end ∙ sym (if_true (rw (h, test false f) refl) _ _)

-- ---- the lists are whole
