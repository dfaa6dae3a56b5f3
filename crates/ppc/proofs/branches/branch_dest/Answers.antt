use Rattle.ppc.proofs.Distance.{dest_is}
use borrow.Author.Rules.{rules}
use Rattle.ppc.proofs.branches.branch_dest.Goals as goal

-- `ppc::branches::branch_dest` is the target of `rules`. Assumes nothing.
pub returns : goal.returns
returns c = search (rules, dest_is)
