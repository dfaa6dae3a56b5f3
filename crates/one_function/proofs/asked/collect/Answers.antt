use Rattle.one_function.proofs.Known.{next_known}
use Rattle.one_function.proofs.asked.collect.Goals as goal

pub loop-row-preserved : goal.loop-row-preserved
loop-row-preserved c =
    next_known c.args.rows.now c.requires c.insert-fits.new.self c.loop-row.row-index c.insert-fits.result c.loop-row-test.true (rw (← c.loop-row.invariant) c.insert-fits.ensures)
