use Rattle.std.proofs.Common.{refl, arith}
use Rattle.reading.proofs.Putting.{add_kept, add_full, add_put, put_row}
use Rattle.reading.proofs.rows.add_row.Goals as goal

pub returns-then-limit-count : goal.returns-then-limit-count
returns-then-limit-count c = let a = c.args in add_kept a.limit a.count a.row.now a.xs.now c.requires c.if-limit-count.true

pub returns-then-xs-count : goal.returns-then-xs-count
returns-then-xs-count c = let a = c.args in add_full a.limit a.count a.row.now a.xs.now c.requires _ refl c.if-limit-count.false c.if-xs-count.true

pub returns : goal.returns
returns c = let a = c.args in add_put a.limit a.count a.row.now a.xs.now c.requires _ refl c.if-limit-count.false c.if-xs-count.false _ (put_row _ _ _ _ _ c.copy_from_slice.ensures.after (omega arith) (omega arith))
