-- The last row's start, where there is one.
use Rattle.std.proofs.Common.{Some, None, sym, ◌∙◌}
use Rattle.slices.specs.View.{slices_of}
use Rattle.slices.proofs.Views.{last_start_is, some_last}
use Rattle.slices.proofs.FunctionSlices.last_start.Goals as goal

pub returns-in_err-block-clause-start : goal.returns-in_err-block-clause-start
unfolding slices_of
returns-in_err-block-clause-start c = rw c.from_residual.ensures (last_start_is c.args.self.now.blocks None (sym c.in_err-block.was ∙ c.last.ensures))

pub returns-in_err-block-clause-some : goal.returns-in_err-block-clause-some
unfolding slices_of
returns-in_err-block-clause-some c = rw c.from_residual.ensures (some_last c.args.self.now.blocks None (sym c.in_err-block.was ∙ c.last.ensures))

pub returns-clause-start : goal.returns-clause-start
unfolding slices_of
returns-clause-start c = last_start_is c.args.self.now.blocks (Some c.in_ok-block.block) (sym c.in_ok-block.was ∙ c.last.ensures)

pub returns-clause-some : goal.returns-clause-some
unfolding slices_of
returns-clause-some c = some_last c.args.self.now.blocks (Some c.in_ok-block.block) (sym c.in_ok-block.was ∙ c.last.ensures)
