-- The scan over plain words.
use Rattle.std.proofs.Common.{◌≡◌, ℕ, zero, suc, ◌+◌, ◌-◌, ◌<◌, ◌≤◌, refl, sym, ap, ◌∙◌, Bool, true, false, ◌&&◌, arith}
use Rattle.std.specs.Prelude.{not}
use Rattle.rules.specs.Choice.{if, if_true, if_false}
use Rattle.rules.specs.Image.{Image}
use Rattle.rules.specs.Plain.{with_run}
use Rattle.rules.specs.Walk.{with_one}
use Rattle.rules.proofs.Plain.{run_above, run_none, run_more}
use Rattle.execution.specs.Stretch.{quick, goes_over, stretch}

module _ (im : Image) (visited : ℕ → Bool) where
  -- the word i is gone over, and the stretch goes on behind it
  stretch_on : (i n : ℕ) → goes_over im visited i ≡ true → stretch im visited i (suc n) ≡ suc (stretch im visited (i + 1) n)
  stretch_on i n h = if_true h _ _

  stretch_off : (i n : ℕ) → goes_over im visited i ≡ false → stretch im visited i (suc n) ≡ 0
  stretch_off i n h = if_false h _ _

  pub stretch_within : (i n : ℕ) → stretch im visited i n ≤ n
  unfolding if
  stretch_within i zero = omega arith
  stretch_within i (suc n) = by (goes_over im visited i) (stretch_within (i + 1) n)
    where
      by : (c : Bool) → stretch im visited (i + 1) n ≤ n → if c (suc (stretch im visited (i + 1) n)) 0 ≤ suc n
      by true h = omega arith
      by false h = omega arith

  -- each word of a stretch is gone over
  pub stretch_each : (i n j : ℕ) → j < stretch im visited i n → goes_over im visited (i + j) ≡ true
  unfolding if
  stretch_each i zero j h = absurd (omega arith)
  stretch_each i (suc n) j h = by (goes_over im visited i) refl j h (stretch_each (i + 1) n)
    where
      by : (c : Bool) → goes_over im visited i ≡ c → (j : ℕ) → j < if c (suc (stretch im visited (i + 1) n)) 0 → ((j : ℕ) → j < stretch im visited (i + 1) n → goes_over im visited (i + 1 + j) ≡ true) → goes_over im visited (i + j) ≡ true
      by true q zero h f = let z : i + 0 ≡ i = omega arith in rw z q
      by true q (suc j) h f = let z : i + suc j ≡ i + 1 + j = omega arith in rw z (f j (omega arith))
      by false q j h f = absurd (omega arith)

  -- the words from `first` up to i were gone over
  pub record Scanning (first most : ℕ) (seen : ℕ → Bool) (i : ℕ) : Type 0 where
    pub count : stretch im visited first most ≡ i - first + stretch im visited i (first + most - i)
    pub marked : seen ≡ with_run visited first (i - first)

  module _ (first most : ℕ) where
    pub scan_begun : Scanning first most visited first
    scan_begun =
        let z : first - first ≡ 0 = omega arith in
        let m : first + most - first ≡ most = omega arith in
        record { count = rw (z, m) (omega arith); marked = rw z (sym (run_none visited first)) }

    module _ (seen : ℕ → Bool) (i : ℕ) (s : Scanning first most seen i) where
      module _ (low : first ≤ i) (high : i < first + most) (t : Bool) (is_t : t ≡ goes_over im seen i) where
        same : t ≡ goes_over im visited i
        unfolding goes_over
        same = is_t ∙ ap (λ (x : Bool). not x && quick im i) (ap (λ (f : ℕ → Bool). f (i + 1)) s.marked ∙ run_above visited first (i - first) (i + 1) (omega arith))

        ahead : first + most - i ≡ suc (first + most - (i + 1))
        ahead = omega arith

        pub scan_stopped : t ≡ false → i - first ≡ stretch im visited first most
        scan_stopped h =
            let y : stretch im visited i (first + most - i) ≡ 0 = rw ahead (stretch_off i _ (sym same ∙ h)) in
            omega (arith, s.count, y)

        pub scan_on : t ≡ true → (more : ℕ → Bool) → more ≡ with_one seen i → Scanning first most more (i + 1)
        scan_on h more m =
            let y : stretch im visited i (first + most - i) ≡ suc (stretch im visited (i + 1) (first + most - (i + 1))) = rw ahead (stretch_on i _ (sym same ∙ h)) in
            let n : i + 1 - first ≡ suc (i - first) = omega arith in
            let at : first + (i - first) ≡ i = omega arith in
            record {
              count = omega (arith, s.count, y);
              marked = m ∙ ap (λ (f : ℕ → Bool). with_one f i) s.marked ∙ ap (λ (x : ℕ). with_one (with_run visited first (i - first)) x) (sym at) ∙ run_more visited first (i - first) ∙ ap (with_run visited first) (sym n);
            }
