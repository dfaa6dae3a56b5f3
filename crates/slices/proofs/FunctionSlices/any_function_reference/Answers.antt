use Rattle.slices.specs.View.{slices_of}
use Rattle.slices.proofs.FunctionSlices.any_function_reference.Goals as goal

pub returns : goal.returns
unfolding slices_of
returns c = c.any_within.ensures
