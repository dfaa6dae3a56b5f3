use Rattle.std.proofs.Common.{ap, ◌∙◌}
use Rattle.rules.specs.Choice.{any}
use Rattle.rules.specs.Blocks.{is_open}
use Rattle.slices.specs.Blocks.{blocks_of}
use Rattle.slices.specs.View.{slices_of}
use Rattle.slices.proofs.FunctionSlices.any_open.Goals as goal

pub returns : goal.returns
unfolding slices_of
returns c = c.any_open.ensures ∙ ap (λ r. any is_open (blocks_of r)) c.as_slice.ensures.rows
