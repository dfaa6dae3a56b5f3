use Rattle.std.proofs.Common.{rules}
use Rattle.slices.specs.View.{slices_of}
use Rattle.slices.proofs.FunctionSlices.new.Goals as goal

pub returns : goal.returns
unfolding slices_of
returns c = search rules
