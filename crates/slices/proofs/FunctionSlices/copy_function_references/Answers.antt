use Rattle.std.proofs.Common.{ap}
use Rattle.rules.specs.Slices.{with_function_references}
use Rattle.slices.specs.View.{slices_of}
use Rattle.slices.proofs.FunctionSlices.copy_function_references.Goals as goal

pub returns : goal.returns
unfolding slices_of
returns c = rw c.copy_from.ensures (ap (λ s. with_function_references s c.args.other.now.function_references) c.clear.ensures)
