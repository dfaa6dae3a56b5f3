use Rattle.std.proofs.Common.{Some, None, sym, ◌∙◌}
use Rattle.execution.proofs.Clear.{next_row}
use Rattle.execution.proofs.plain.next_key.Goals as goal

pub returns-in-Some : goal.returns-in-Some
returns-in-Some g c = next_row _ _ _ (Some c.in-Some.row) (sym c.in-Some.is ∙ c.first_from.ensures)

pub returns-in-None : goal.returns-in-None
returns-in-None g c = next_row _ _ _ None (sym c.in-None.is ∙ c.first_from.ensures)
