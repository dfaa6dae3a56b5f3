use Rattle.marks.proofs.Marks.{passes_starts, passes_ends, not_aligned, by_table}
use Rattle.std.proofs.Common.{rules}
use Rattle.marks.proofs.is_markable.Goals as goal

pub returns-then-addr-eq0 : goal.returns-then-addr-eq0
returns-then-addr-eq0 c = search (rules, by_table)

pub returns-else-addr-eq0 : goal.returns-else-addr-eq0
returns-else-addr-eq0 c = search (rules, not_aligned)

pub returns-else-count-es : goal.returns-else-count-es
returns-else-count-es c = search (rules, passes_ends)

pub returns-else-count-ss : goal.returns-else-count-ss
returns-else-count-ss c = search (rules, passes_starts)
