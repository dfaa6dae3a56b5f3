-- What is left of an outcome after its block has ended.
use Rattle.std.proofs.Common.{◌≡◌, ℕ, refl}
use Rattle.rules.specs.Choice.{Answer, ok, fault, ◌>>=◌}
use Rattle.rules.specs.Step as rules
use Rattle.obj.specs.declared.outcomes.Outcome.{Outcome}
use Rattle.obj.specs.declared.outcomes.Outcome.TheVariants.{GoOn, Illegal, Unknown, Return, Jump, JumpTable, Branches}
use Rattle.obj.specs.Outcomes.{outcome_for}
use Rattle.walks.specs.After.{after_block}

no_more : (a : Answer rules.Walk) → a ≡ (a >>= λ w. ok w)
unfolding ◌>>=◌
no_more (ok w) = refl
no_more (fault n) = refl

pub ended : (e : rules.Around) (k b : ℕ) (w : rules.Walk) (o : Outcome) → (o ≡ GoOn → ⊥) → (o ≡ Illegal → ⊥) → rules.do_outcome e k b (outcome_for o) w ≡ (rules.end_block k b w >>= λ v. after_block e k (outcome_for o) v)
unfolding rules.do_outcome
ended e k b w GoOn g i = absurd (g refl)
ended e k b w Illegal g i = absurd (i refl)
ended e k b w Unknown g i = refl
ended e k b w Return g i = no_more (rules.end_block k b w)
ended e k b w (Jump a) g i = refl
ended e k b w (JumpTable a n) g i = refl
ended e k b w (Branches x y) g i = refl
