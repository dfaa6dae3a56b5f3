use Rattle.std.proofs.Common.{ap, ◌∙◌}
use Rattle.rules.specs.Blocks.{first_disconnected_block}
use Rattle.slices.specs.Blocks.{blocks_of, some_closed}
use Rattle.slices.specs.View.{slices_of}
use Rattle.slices.proofs.FunctionSlices.first_disconnected_block.Goals as goal

pub returns : goal.returns
unfolding slices_of
returns c = c.first_disconnected_block.ensures ∙ ap (λ r. some_closed (first_disconnected_block (blocks_of r))) c.as_slice.ensures.rows
