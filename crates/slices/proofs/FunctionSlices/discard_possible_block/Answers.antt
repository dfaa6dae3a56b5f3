use Rattle.std.proofs.Common.{ap}
use Rattle.rules.specs.Slices.{with_possible_blocks, discard_possible_block}
use Rattle.slices.specs.View.{slices_of}
use Rattle.slices.proofs.FunctionSlices.discard_possible_block.Goals as goal

pub returns : goal.returns
unfolding slices_of discard_possible_block
returns c = ap (with_possible_blocks (slices_of c.args.self.now)) c.remove.ensures
