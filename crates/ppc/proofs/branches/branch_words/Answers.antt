use Rattle.ppc.proofs.Distance.{count_near, count_far, count_far_fits}
use borrow.Author.Rules.{rules}
use Rattle.ppc.proofs.branches.branch_words.Goals as goal

-- `ppc::branches::branch_words` is the signed count of `rules`: half of the counts lie below 0. Assumes nothing.
pub returns-then-x-lt8388608 : goal.returns-then-x-lt8388608
returns-then-x-lt8388608 c = search (rules, count_near)

pub overflow_sub-result : goal.overflow_sub-result
overflow_sub-result c = search (rules, count_far_fits)

pub returns-else-x-lt8388608 : goal.returns-else-x-lt8388608
returns-else-x-lt8388608 c = search (rules, count_far)
