use borrow.Author.Rules.{rules}
use borrow.Author.Tests.{tests, le-leb, lt-leb}
use Rattle.std.proofs.Common.{ltb}
use lib.ListN.{length-map}
use Rattle.std.proofs.lemmas.List.Sorted.{answers_always}
use Rattle.rules.specs.Blocks.{Block}
use Rattle.rules.specs.OneFunction.{are_known}
use Rattle.obj_rows.proofs.Points.{chained_rows}
use Rattle.one_function.specs.Rows.{block_in}
use Rattle.one_function.proofs.asked.are_known.Goals as goal

pub returns-then-rows-le-FUNCTIONS : goal.returns-then-rows-le-FUNCTIONS
unfolding are_known
returns-then-rows-le-FUNCTIONS c =
    rw (length-map c.args.rows.now block_in, le-leb _ _ c.if-rows-le-FUNCTIONS.true)
    (chained_rows (λ (a b : Block). ltb a.start b.start) block_in _ c.args.rows.now
    (c.is_sorted_by.ensures.cases (λ x y. ltb (block_in x).start (block_in y).start) (answers_always _ _ _ (λ f a r f' k. search (rules, tests)))))

pub returns-else-rows-le-FUNCTIONS : goal.returns-else-rows-le-FUNCTIONS
unfolding are_known
returns-else-rows-le-FUNCTIONS c = rw (length-map c.args.rows.now block_in, lt-leb _ _ c.if-rows-le-FUNCTIONS.false)
