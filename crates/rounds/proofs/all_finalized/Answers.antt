use Rattle.std.proofs.Common.{sym, ◌∙◌}
use Rattle.rules.specs.Choice.{if_true, if_false}
use Rattle.rules.specs.Map.{all_finalized}
use Rattle.rounds.proofs.all_finalized.Goals as goal

pub returns-then-any_unfinalized : goal.returns-then-any_unfinalized
unfolding all_finalized
returns-then-any_unfinalized c = λ im cap lists es h. sym (if_true (sym (c.any_unfinalized.ensures cap lists es h) ∙ c.if-any_unfinalized.true) _ _)

pub returns : goal.returns
unfolding all_finalized
returns c = λ im cap lists es h. sym (if_false (sym (c.any_unfinalized.ensures cap lists es h) ∙ c.if-any_unfinalized.false) _ _)
