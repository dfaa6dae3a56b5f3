-- The tests before the trial walk, in their order.
use Rattle.std.proofs.Common.{◌≡◌, ℕ, sym, ap, ◌∙◌, refl, Bool, true, false, ◌||◌, eq-eqb, ne_eqb}
use mathlib.Core.Bool.{false≢true}
use Rattle.std.specs.Prelude.{Option, Some, None, unwrap_or, is_some, not}
use Rattle.obj_info.specs.Info.{some_nonzero}
use Rattle.walks.proofs.Options.{found}
use Rattle.rules.specs.Choice.{if, if_true, if_false}
use Rattle.rules.specs.Slices.{Slices}
use Rattle.rules.specs.Step.{Around}
use Rattle.rules.specs.TailCall as rules

-- whether an end is known
pub none_known : (o : Option ℕ) (b : Bool) → is_some o ≡ not b → b ≡ true → unwrap_or o 0 ≡ 0
none_known None b e h = refl
none_known (Some x) b e h = absurd (false≢true (sym (e ∙ ap not h)))

pub some_known : (o : Option ℕ) → o ≡ some_nonzero (unwrap_or o 0) → (b : Bool) → is_some o ≡ not b → b ≡ false → unwrap_or o 0 ≡ 0 → ⊥
some_known None a b e h z = absurd (false≢true (e ∙ ap not h))
some_known (Some x) a b e h z = (found x x a).1 z

module _ (e : Around) (k : ℕ) (s : Slices) (own : Bool) (is_own : own ≡ rules.is_own e k s) where
  pub not_one : own ≡ true → rules.check_tail_call e k s ≡ rules.verdict rules.is_not s
  unfolding rules.check_tail_call
  not_one h = if_true (sym is_own ∙ h) _ _

  module _ (other : own ≡ false) (apart : Bool) (is_apart : apart ≡ rules.is_separate e k) where
    pub is_apart_one : apart ≡ true → rules.check_tail_call e k s ≡ rules.verdict rules.is s
    unfolding rules.check_tail_call
    is_apart_one h = if_false (sym is_own ∙ other) _ _ ∙ if_true (sym is_apart ∙ h) _ _

    module _ (near : apart ≡ false) where
      between : rules.check_tail_call e k s ≡ rules.check_between e k s
      unfolding rules.check_tail_call
      between = if_false (sym is_own ∙ other) _ _ ∙ if_false (sym is_apart ∙ near) _ _

      pub no_end : e.end ≡ 0 → rules.check_tail_call e k s ≡ rules.verdict rules.possibly s
      unfolding rules.check_between
      no_end h = between ∙ if_true (eq-eqb _ _ h) _ _

      module _ (ends : e.end ≡ 0 → ⊥) (refers : Bool) (is_refers : refers ≡ rules.is_referred e k s) where
        ended : (r : Bool) → (rules.is_referred e k s || rules.prologue_before e k) ≡ r → rules.check_tail_call e k s ≡ if r (rules.verdict rules.is s) (rules.trial e k s)
        unfolding rules.check_between
        ended r q = between ∙ if_false (ne_eqb _ _ ends) _ _ ∙ ap (λ (x : Bool). if x (rules.verdict rules.is s) (rules.trial e k s)) q

        pub is_referred_one : refers ≡ true → rules.check_tail_call e k s ≡ rules.verdict rules.is s
        is_referred_one h = ended true (ap (λ (x : Bool). x || rules.prologue_before e k) (sym is_refers ∙ h)) ∙ if_true refl _ _

        module _ (free : refers ≡ false) (begins : Bool) (is_begins : begins ≡ rules.prologue_before e k) where
          left : (rules.is_referred e k s || rules.prologue_before e k) ≡ begins
          left = ap (λ (x : Bool). x || rules.prologue_before e k) (sym is_refers ∙ free) ∙ sym is_begins

          pub is_behind_prologue : begins ≡ true → rules.check_tail_call e k s ≡ rules.verdict rules.is s
          is_behind_prologue h = ended true (left ∙ h) ∙ if_true refl _ _

          pub trial_decides : begins ≡ false → rules.check_tail_call e k s ≡ rules.trial e k s
          trial_decides h = ended false (left ∙ h) ∙ if_false refl _ _
