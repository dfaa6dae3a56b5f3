use Rattle.std.proofs.Common.{refl}
use Rattle.slices.specs.View.{slices_of}
use Rattle.walks.proofs.Options.{not_not}
use Rattle.finalizing.proofs.lacks_prologue.Goals as goal

pub returns : goal.returns
unfolding slices_of
returns c = rw (c.is_recorded.ensures, c.is_recorded-2.ensures, not_not) refl
