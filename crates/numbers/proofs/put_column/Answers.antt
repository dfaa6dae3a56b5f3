-- Row by row.
use Rattle.std.proofs.Common.{arith, ap, ◌∙◌}
use Rattle.numbers.proofs.Columns.{column_next, column_all}
use Rattle.numbers.proofs.put_column.Goals as goal

pub loop-at-preserved : goal.loop-at-preserved
loop-at-preserved g c f is =
    column_next f c.args.rows.now c.loop-at.column c.loop-at.at c.number.result c.index-rows-at.result (omega arith) (omega arith) (c.loop-at.invariant f is)
    (is _ _ c.number.ensures ∙ ap f c.index-rows-at.is)

pub returns : goal.returns
returns g c f is = column_all f c.args.rows.now c.loop-at.column c.loop-at.at (omega arith) (omega arith) (c.loop-at.invariant f is)
