use Rattle.std.proofs.Common.{refl}
use Rattle.slices.specs.View.{slices_of}
use Rattle.slices.proofs.FunctionSlices.clear.Goals as goal

pub returns : goal.returns
unfolding slices_of
returns c = rw (c.clear.ensures, c.clear-2.ensures, c.clear-3.ensures, c.clear-4.ensures, c.clear-5.ensures) refl
