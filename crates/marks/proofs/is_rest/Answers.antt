use Rattle.std.proofs.Common.{rules}
use Rattle.marks.proofs.Checks.{rest_none, rest_low, rest_last}
use Rattle.marks.proofs.is_rest.Goals as goal

-- `marks::is_rest`: none is left, or one. Assumes nothing.
pub returns-then-count-i : goal.returns-then-count-i
returns-then-count-i c = search (rules, rest_none)

pub returns-then-start-least : goal.returns-then-start-least
returns-then-start-least c = search (rules, rest_low)

pub returns : goal.returns
returns c = search (rules, rest_last)
