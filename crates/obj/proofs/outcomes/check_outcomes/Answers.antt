use native.Mathlib.Omega.{arith}
use Rattle.obj.proofs.Numbers.{outcomes_are, outcomes_broken, outcomes_miscounted}
use Rattle.obj.proofs.outcomes.check_outcomes.Goals as goal

-- `obj::outcomes::check_outcomes` is `check_outcomes` of `rules`. Assumes nothing.
pub returns-in_default : goal.returns-in_default
returns-in_default c = outcomes_broken c.args.sections.now c.args.outcomes.now (λ h. omega (arith, c.as_chunks.ensures.back_len, c.in_default.len_at_least))

pub returns-then-outcomes-words : goal.returns-then-outcomes-words
returns-then-outcomes-words c = outcomes_are c.args.sections.now c.args.outcomes.now c.code_section-words.result c.code_section-words.ensures (omega (arith, c.as_chunks.ensures.back_len, c.in_default-empty.len_below)) c.as_chunks.result.0.now c.as_chunks.ensures.front c.are_outcomes.result c.if-outcomes-words.true c.are_outcomes.ensures

pub returns-else-outcomes-words : goal.returns-else-outcomes-words
returns-else-outcomes-words c = outcomes_miscounted c.args.sections.now c.args.outcomes.now c.code_section-words.result c.code_section-words.ensures (omega (arith, c.as_chunks.ensures.back_len, c.in_default-empty.len_below)) c.as_chunks.result.0.now c.as_chunks.ensures.front c.if-outcomes-words.false
