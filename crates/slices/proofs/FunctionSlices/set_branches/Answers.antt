use Rattle.rules.specs.Slices.{with_branches, set_branches}
use Rattle.slices.proofs.Views.{passed}
use Rattle.slices.specs.View.{slices_of}
use Rattle.slices.proofs.FunctionSlices.set_branches.Goals as goal

pub returns : goal.returns
unfolding slices_of set_branches
returns c = passed (with_branches (slices_of c.args.self.now)) _ _ c.set.result c.set.ensures
