use Rattle.obj.proofs.Told.{of_list}
use Rattle.obj.proofs.outcomes.branches_of.Goals as goal

-- `obj::outcomes::branches_of` is the list of `rules`. Assumes nothing.
pub returns : goal.returns
returns c = of_list c.args.r c.branch_of.result c.branch_of-2.result c.requires c.branch_of.ensures c.branch_of-2.ensures
