use Rattle.walks.proofs.Steps.{on_slices_is}
use Rattle.walks.proofs.walk.Walk.set_branches.Goals as goal

pub returns : goal.returns
returns c = on_slices_is _ _ _ _ c.set_branches.ensures
