use Rattle.result_lists.proofs.Putting.{Going}
use Rattle.result_lists.proofs.put_rows.Given as goal

abbrev pub invariant-loop-at : goal.invariant-loop-at
invariant-loop-at l = Going l.entries l.info-items l.fn.rows l.at l.rows
