-- Where a stretch is looked for.
use Rattle.std.proofs.Common.{◌≡◌, ℕ, ◌+◌, ◌*◌, ◌-◌, ◌/◌, ◌<◌, ◌≤◌, refl, sym, ap, ◌∙◌, Bool, true, false, Some, None, leb, arith}
use mathlib.Core.Bool.{and-false}
use borrow.Author.Tests.{le-leb, lt-leb, leb-true}
use Rattle.rules.specs.Choice.{if, if_true, if_false}
use Rattle.rules.specs.Address.{address_of}
use Rattle.rules.specs.Image.{Image, code_section, code_words, contains, index}
use Rattle.rules.proofs.Tests.{and_left, and_right}
use Rattle.rules.proofs.WalkEnds.{Sound}
use Rattle.execution.specs.Spot.{is_looked_at, behind, is_spot, spot_in}
use Rattle.execution.specs.declared.plain.Spot.{Spot}
use Rattle.execution.proofs.Words.{index_low, further_low}

module _ (im : Image) (k b : ℕ) where
  abbrev here : Spot
  here = record { index = index im k; behind = behind im k }

  -- where it is not
  pub not_looked_at : is_looked_at k b ≡ false → None ≡ spot_in im k b
  unfolding is_spot
  not_looked_at h = sym (if_false (rw h refl) _ _)

  pub not_inside : contains (code_section im) (address_of k) ≡ false → None ≡ spot_in im k b
  unfolding is_spot
  not_inside h = sym (if_false (rw h (and-false (is_looked_at k b))) _ _)

  module _ (size : ℕ) (is_size : size ≡ (code_section im).size) (i : ℕ) (at : index im k ≡ i) where
    left_is : size / 4 - 1 - i ≡ behind im k
    unfolding behind code_words
    left_is = rw (← at, ← is_size) refl

    pub too_few : size / 4 - 1 - i < 2 → None ≡ spot_in im k b
    unfolding is_spot
    too_few h =
        let few : leb 2 (behind im k) ≡ false = lt-leb 2 (behind im k) (rw (← left_is) h) in
        sym (if_false (rw (few, and-false (contains (code_section im) (address_of k)), and-false (is_looked_at k b)) refl) _ _)

    -- and where it is
    pub spot_is : is_looked_at k b ≡ true → contains (code_section im) (address_of k) ≡ true → 2 ≤ size / 4 - 1 - i → Some (record { index = i; behind = size / 4 - 1 - i }) ≡ spot_in im k b
    unfolding is_spot
    spot_is looked inside h =
        let enough : leb 2 (behind im k) ≡ true = le-leb 2 (behind im k) (rw (← left_is) h) in
        sym (if_true (rw (looked, inside, enough) refl) _ _ ∙ rw (at, left_is) refl)

  -- what is found is one
  found : (s : Spot) → Some s ≡ spot_in im k b → (is_spot im k b ≡ true) × (s ≡ here)
  unfolding if
  found s e = by (is_spot im k b) refl e
    where
      by : (c : Bool) → is_spot im k b ≡ c → Some s ≡ if c (Some here) None → (is_spot im k b ≡ true) × (s ≡ here)
      by true h e = (h, cc)
      by false h e = cc

  pub no_spot : None ≡ spot_in im k b → is_spot im k b ≡ false
  unfolding if
  no_spot e = by (is_spot im k b) refl e
    where
      by : (c : Bool) → is_spot im k b ≡ c → None ≡ if c (Some here) None → is_spot im k b ≡ false
      by true h e = cc
      by false h e = h

  module _ (is : is_spot im k b ≡ true) where
    pub inside : contains (code_section im) (address_of k) ≡ true
    unfolding is_spot
    inside = and_left _ _ (and_right (is_looked_at k b) _ is)

    two : 2 ≤ behind im k
    unfolding is_spot
    two = leb-true _ _ (and_right (contains (code_section im) (address_of k)) _ (and_right (is_looked_at k b) _ is))

    pub to_end : Sound im → index im k + behind im k + 1 ≡ code_words im
    unfolding behind
    to_end sound = omega (arith, index_low im sound k inside)

  -- with what it says
  module _ (sound : Sound im) (s : Spot) (e : Some s ≡ spot_in im k b) where
    pub is_found : is_spot im k b ≡ true
    is_found = (found s e).0

    pub number : s.index ≡ index im k
    number = ap (λ (x : Spot). x.index) (found s e).1

    pub others : s.behind ≡ behind im k
    others = ap (λ (x : Spot). x.behind) (found s e).1

    pub two_behind : 2 ≤ s.behind
    two_behind = omega (arith, others, two is_found)

    pub all_behind : s.index + s.behind + 1 ≡ code_words im
    all_behind = omega (arith, number, others, to_end is_found sound)

    pub low_behind : address_of k + 4 * s.behind < 0xF000_0000
    low_behind = further_low im sound k (inside is_found) s.behind (omega (arith, number, all_behind))
