-- Other possible blocks in a trial's blocks, and the trial's own words.
use Rattle.std.proofs.Common.{◌≡◌, ℕ, ◌+◌, ◌≤◌, refl, sym, ap, ◌∙◌, Bool, true, false, not, ◌&&◌, List, [], ◌∷◌, leb, ltb, min, arith}
use mathlib.Core.Bool.{false≢true}
use Rattle.std.proofs.lemmas.Bool.Decides.{nat_tests}
use Rattle.rules.specs.Choice.{if, if_true, if_false, any, filter}
use Rattle.rules.specs.Blocks.{first_start, last_end}
use Rattle.rules.specs.Slices.{Slices, with_possible_blocks}
use Rattle.rules.specs.Step.{Around}
use Rattle.rules.specs.TailCall as rules
use Rattle.walks.proofs.Tabled.{any_same}

-- where a test holds of none, all are kept
none_gone : (p : ℕ → Bool) (l : List ℕ) → any p l ≡ false → filter (λ x. not (p x)) l ≡ l
unfolding if
none_gone p [] h = refl
none_gone p (x ∷ l) h = by (p x) h (none_gone p l)
  where
    by : (b : Bool) → if b true (any p l) ≡ false → (any p l ≡ false → filter (λ x. not (p x)) l ≡ l) → if (not b) (x ∷ filter (λ x. not (p x)) l) (filter (λ x. not (p x)) l) ≡ x ∷ l
    by true q f = absurd (false≢true (sym q))
    by false q f = ap (λ (m : List ℕ). x ∷ m) (f q)

filter_same : (p q : ℕ → Bool) → ((x : ℕ) → p x ≡ q x) → (l : List ℕ) → filter p l ≡ filter q l
filter_same p q e [] = refl
filter_same p q e (x ∷ l) = rw (e x, filter_same p q e l) refl

-- where four more would be too much, nothing lies from there up to an end
pub other_is : (e : Around) (t : Slices) (first end second : ℕ) → first ≡ first_start t.blocks → end ≡ last_end t.blocks → second ≡ min (first + 4) 0xFFFF_FFFF_FFFF_FFFF → end ≤ 0xFFFF_FFFF_FFFF_FFFF → (x : ℕ) → (leb second x && ltb x end) ≡ rules.is_other e t x
other_is e t first end second f g h small x = rw (← f, ← g) (same_part first second end x h small)
  where
    same_part : (first second end x : ℕ) → second ≡ min (first + 4) 0xFFFF_FFFF_FFFF_FFFF → end ≤ 0xFFFF_FFFF_FFFF_FFFF → (leb second x && ltb x end) ≡ (leb (first + 4) x && ltb x end)
    same_part first second end x e h = grind (arith, nat_tests)

module _ (e : Around) (s t : Slices) (test : ℕ → Bool) (same : (x : ℕ) → test x ≡ rules.is_other e t x) (ps : List ℕ) (is_ps : ps ≡ filter (λ x. not (test x)) s.possible_blocks) (b : Bool) (is_b : b ≡ any test s.possible_blocks) where
  some : any (rules.is_other e t) s.possible_blocks ≡ b
  some = sym (is_b ∙ any_same test (rules.is_other e t) same s.possible_blocks)

  pub others_gone : b ≡ true → rules.verdict rules.is_not (with_possible_blocks s ps) ≡ rules.judge_others e s t
  unfolding rules.judge_others
  others_gone h =
      ap (λ (l : List ℕ). rules.verdict rules.is_not (with_possible_blocks s l)) (is_ps ∙ filter_same (λ x. not (test x)) (λ x. not (rules.is_other e t x)) (λ x. ap not (same x)) s.possible_blocks) ∙
      sym (if_true (some ∙ h) _ _)

  pub no_others : (a : rules.TailCall) → b ≡ false → a ≡ rules.own_word e t → rules.verdict a (with_possible_blocks s ps) ≡ rules.judge_others e s t
  unfolding rules.judge_others
  no_others a h q =
      ap (λ (l : List ℕ). rules.verdict a (with_possible_blocks s l)) (is_ps ∙ none_gone test s.possible_blocks (sym is_b ∙ h)) ∙
      ap (λ (x : rules.TailCall). rules.verdict x s) q ∙
      sym (if_false (some ∙ h) _ _)
