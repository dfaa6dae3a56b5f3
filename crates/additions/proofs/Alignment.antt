-- Skipped and zero words.
use Rattle.std.proofs.Common.{◌≡◌, ℕ, ◌+◌, ◌-◌, ◌≤◌, ◌<◌, Bool, true, false, ◌&&◌, leb, ltb, eqb, refl, sym, ap, ◌∙◌, arith}
use Rattle.std.specs.Prelude.{Option, Some, None}
use Rattle.std.specs.Option.{option_eq}
use Rattle.std.specs.Bool.{then_some}
use borrow.Author.Tests.{leb-true, ltb-false, lt-ltb, le-ltb, ne_eqb}
use Rattle.rules.specs.Choice.{by_if, if_true, if_false}
use Rattle.rules.specs.Loop.{run, run_step, run_stop}
use Rattle.rules.specs.Image as images
use Rattle.rules.specs.Image.{no_word}
use Rattle.rules.specs.Map as rules
use Rattle.rules.proofs.SkipsEnd.{past_range_on, padding_falls}
use Rattle.rules.proofs.Tests.{and_left}
use Rattle.obj_info.specs.Info.{some_word}
use Rattle.additions.specs.Found.{some_below}

-- ---- a zero word

pub zero_is : (w : ℕ) → option_eq eqb (some_word w) (Some 0) ≡ eqb w 0
zero_is w =
    by_if (λ (o : Option ℕ). option_eq eqb o (Some 0) ≡ eqb w 0) (ltb w no_word) (λ _. refl)
    (λ h. sym (ne_eqb w 0 (λ z. let l = ltb-false w no_word h in absurd (omega (arith, l, z)))))

-- ---- over skip ranges and zero words

module _ (im : images.Image) where
  abbrev IsSkipped : ℕ → ℕ → Type 0
  IsSkipped a b = (cap : rules.Capacity) → b ≡ rules.skip_range im cap a

  skips_on : (a b : ℕ) → IsSkipped a b → a ≤ b
  unfolding rules.skip_range
  skips_on a b i =
      let cap : rules.Capacity = record { entries = 0; numbers = 0 } in
      rw (i cap) (past_range_on im cap a im.skips)

  module _ (a end : ℕ) where
    abbrev over : rules.Capacity → ℕ → ℕ
    over cap x = run (rules.is_padding im cap end) (rules.skip_zero im cap) (λ y. end - y) x

    -- what is left to do comes to the same; b is behind the skip range from there
    pub record Over (b : ℕ) : Type 0 where
      pub at : ℕ
      pub skipped : IsSkipped at b
      pub same : (cap : rules.Capacity) → over cap at ≡ over cap a

    pub over_first : (b : ℕ) → IsSkipped a b → Over b
    over_first b i = record { at = a; skipped = i; same = λ cap. refl }

    module _ (b : ℕ) (o : Over b) (r : Bool) (z : r ≡ (leb (b + 4) end && eqb (images.word im b) 0)) where
      padding : (cap : rules.Capacity) → rules.is_padding im cap end o.at ≡ r
      unfolding rules.is_padding
      padding cap = rw (← o.skipped cap) (sym z)

      pub over_inside : r ≡ true → b + 4 ≤ end
      over_inside h = leb-true (b + 4) end (and_left _ _ (sym z ∙ h))

      module _ (h : r ≡ true) (b' : ℕ) (i : IsSkipped (b + 4) b') where
        pub over_on : Over b'
        over_on = record { at = b + 4; skipped = i; same = by }
          where
            by : (cap : rules.Capacity) → over cap (b + 4) ≡ over cap a
            by cap =
                let n : rules.skip_zero im cap o.at ≡ b + 4 = unfold rules.skip_zero in ap (λ (y : ℕ). y + 4) (sym (o.skipped cap)) in
                ap (over cap) (sym n)
                ∙ sym (run_step (rules.is_padding im cap end) (rules.skip_zero im cap) (λ y. end - y) (padding_falls im cap end) o.at (padding cap ∙ h))
                ∙ o.same cap

        pub over_less : end - b' < end - b
        over_less = omega (arith, over_inside h, skips_on (b + 4) b' i)

      module _ (h : r ≡ false) (cap : rules.Capacity) where
        ends : b ≡ rules.skip_range im cap (over cap a)
        ends = o.skipped cap ∙ ap (rules.skip_range im cap) (sym (run_stop (rules.is_padding im cap end) (rules.skip_zero im cap) (λ y. end - y) o.at (padding cap ∙ h)) ∙ o.same cap)

        pub over_found : (t : Bool) → t ≡ leb (b + 4) end → then_some t b ≡ some_below end (rules.skip_alignment im cap a end)
        unfolding rules.skip_alignment
        over_found true e =
            let l = leb-true (b + 4) end (sym e) in
            rw (← ends, if_true (sym e) b end) (sym (if_true (lt-ltb b end (omega (arith, l))) (Some b) None))
        over_found false e = rw (← ends, if_false (sym e) b end) (sym (if_false (le-ltb end end (omega arith)) (Some end) None))
