use Rattle.rules.specs.Slices.{with_possible_blocks, add_possible_block}
use Rattle.slices.proofs.Views.{passed}
use Rattle.slices.specs.View.{slices_of}
use Rattle.slices.proofs.FunctionSlices.add_possible_block.Goals as goal

pub returns : goal.returns
unfolding slices_of add_possible_block
returns c = passed (with_possible_blocks (slices_of c.args.self.now)) _ _ c.insert.result c.insert.ensures
