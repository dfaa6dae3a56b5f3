use Rattle.rules.specs.Slices.{with_blocks, add_block_start}
use Rattle.slices.specs.View.{slices_of}
use Rattle.slices.proofs.Views.{passed}
use Rattle.slices.proofs.FunctionSlices.add_block_start.Goals as goal

pub returns-clause-marked : goal.returns-clause-marked
unfolding slices_of add_block_start
returns-clause-marked c = passed (with_blocks (slices_of c.args.self.now)) _ _ c.add_block_start.result c.add_block_start.ensures.marked

pub returns-clause-new : goal.returns-clause-new
unfolding slices_of
returns-clause-new c = c.add_block_start.ensures.new
