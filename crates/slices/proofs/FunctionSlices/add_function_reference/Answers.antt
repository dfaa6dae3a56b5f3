use Rattle.rules.specs.Slices.{with_function_references, add_function_reference}
use Rattle.slices.proofs.Views.{passed}
use Rattle.slices.specs.View.{slices_of}
use Rattle.slices.proofs.FunctionSlices.add_function_reference.Goals as goal

pub returns : goal.returns
unfolding slices_of add_function_reference
returns c = passed (with_function_references (slices_of c.args.self.now)) _ _ c.insert.result c.insert.ensures
