use borrow.Author.Rules.{rules}
use Rattle.obj_rows.proofs.OutcomeRows.{zero_way, to_nowhere, to_elsewhere, to_inside}
use Rattle.obj_rows.proofs.outcomes.is_branch_row.Goals as goal

-- `obj::outcomes::is_branch_row` is `is_branch_row` of `rules`, of the branch if there is one. Assumes nothing.
pub returns-then-way-eq0 : goal.returns-then-way-eq0
returns-then-way-eq0 c = search (rules, zero_way)

pub returns-else-way-eq0 : goal.returns-else-way-eq0
returns-else-way-eq0 c = search (rules, to_nowhere)

pub returns-in-3 : goal.returns-in-3
returns-in-3 c = search (rules, to_elsewhere)

pub returns-in_default : goal.returns-in_default
returns-in_default c = search (rules, to_inside)
