use Rattle.std.proofs.Common.{sym, ◌∙◌}
use Rattle.walks.proofs.Options.{other_found, other_not_found}
use Rattle.execution.specs.Stretch.{other}
use Rattle.execution.proofs.plain.is_other.Goals as goal

pub returns-in-Some : goal.returns-in-Some
unfolding other
returns-in-Some c = λ f is. other_found f _ _ (sym c.in-Some.is ∙ is)

pub returns-in-None : goal.returns-in-None
unfolding other
returns-in-None c = λ f is. other_not_found f _ (sym c.in-None.is ∙ is)
