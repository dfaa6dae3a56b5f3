-- Addresses that ascend are put behind one another.
use Rattle.std.proofs.Common.{refl, ap, ◌∙◌, get_or}
use lib.Seq.{take_all}
use Rattle.rules.specs.Choice.{limited}
use Rattle.rules.specs.Ordered.{self as own, put}
use Rattle.tables.proofs.Columns.{put_next}
use Rattle.tables.proofs.sets.Set.assign.Goals as goal

pub loop-item-preserved : goal.loop-item-preserved
loop-item-preserved g c rise few =
    let i = c.loop-item.item-index in
    put_next own c.args.items.now _ g.row.N i 0 (get_or c.args.items.now i 0) c.insert-fits.result rise few c.loop-item-test.true refl
    (c.insert-fits.ensures ∙ ap (λ l. limited g.row.N (put own (get_or c.args.items.now i 0) l)) (c.loop-item.invariant rise few))

pub returns : goal.returns
returns g c rise few = c.loop-item.invariant rise few ∙ take_all _ _ c.loop-item-test.false
