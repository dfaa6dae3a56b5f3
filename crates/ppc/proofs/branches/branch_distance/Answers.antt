use Rattle.ppc.proofs.Distance.{four_counts, four_counts_fit}
use borrow.Author.Rules.{rules}
use Rattle.ppc.proofs.branches.branch_distance.Goals as goal

-- `ppc::branches::branch_distance` is that of `rules`: four times a count fits. Assumes nothing.
pub overflow_mul-result : goal.overflow_mul-result
overflow_mul-result c = search (rules, four_counts_fit)

pub returns : goal.returns
returns c = search (rules, four_counts)
