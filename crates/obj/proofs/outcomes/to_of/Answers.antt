use borrow.Author.Rules.{rules}
use Rattle.obj.proofs.Told.{branch_to_address, branch_to_table, branch_to_none, branch_unmarked, branch_elsewhere}
use Rattle.obj.proofs.outcomes.to_of.Goals as goal
use Rattle.obj.proofs.outcomes.to_of.Goals.{else-way-eq0-via-then-way-eq0+else-a-eq0, else-way-eq0-via-else-way-eq0}

-- `obj::outcomes::to_of` is where the branch of `rules` goes, if there is one. Assumes nothing.
pub returns-in-1 : goal.returns-in-1
returns-in-1 c = search (rules, branch_to_address)

pub returns-in-2 : goal.returns-in-2
returns-in-2 c = search (rules, branch_to_table)

pub returns-then-a-eq0 : goal.returns-then-a-eq0
returns-then-a-eq0 c = branch_to_none c.args.way c.args.a c.if-way-eq0.true c.if-a-eq0.true

pub returns-else-way-eq0 : goal.returns-else-way-eq0
returns-else-way-eq0 c =
    elim c.else-way-eq0.branch [
      | else-way-eq0-via-then-way-eq0+else-a-eq0 w ↦ branch_unmarked c.args.way c.args.a w.if-way-eq0.true w.if-a-eq0.false
      | else-way-eq0-via-else-way-eq0 w ↦ branch_elsewhere c.args.way c.args.a w.if-way-eq0.false (search rules) (search rules)
    ]
