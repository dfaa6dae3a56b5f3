use Rattle.std.proofs.Common.{sym, ◌∙◌}
use Rattle.rules.specs.Choice.{if_true, if_false}
use Rattle.rules.specs.Step.{second_prologue}
use Rattle.walks.proofs.sequences.second_prologue.Goals as goal

pub returns-then-is_misplaced : goal.returns-then-is_misplaced
unfolding second_prologue
returns-then-is_misplaced c = λ s p. rw p (sym (if_true (sym c.is_misplaced.ensures ∙ c.if-is_misplaced.true) _ _))

pub returns : goal.returns
unfolding second_prologue
returns c = λ s p. rw p (sym (if_false (sym c.is_misplaced.ensures ∙ c.if-is_misplaced.false) _ _))
