use Rattle.std.proofs.Common.{ℕ, eqb, sym, ap, ◌∙◌}
use Rattle.std.specs.Prelude.{Option, Some}
use Rattle.std.specs.Option.{option_eq}
use Rattle.walks.proofs.Options.{and_second}
use Rattle.additions.proofs.Alignment.{zero_is}
use Rattle.additions.proofs.gaps.is_zero.Goals as goal

pub returns-then-ends_by : goal.returns-then-ends_by
returns-then-ends_by c = c.eq.ensures ∙ ap (λ (o : Option ℕ). option_eq eqb o (Some 0)) c.word.ensures.value ∙ zero_is _ ∙ and_second _ _ (sym c.ends_by.ensures ∙ c.if-ends_by.true)
