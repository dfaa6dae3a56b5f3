use mathlib.Core.Bool.{false≢true}
use Rattle.std.proofs.Common.{rules}
use Rattle.marks.proofs.Checks.{pair_low, pair_falls, pair_blocks, pair_fits}
use Rattle.marks.proofs.is_pair.Goals as goal

-- `marks::is_pair`: the tests one by one. Assumes nothing.
pub returns-then-start-least : goal.returns-then-start-least
returns-then-start-least c = record { value = search (rules, pair_low); second_bound = λ h. absurd (false≢true h) }

pub returns-then-second-start : goal.returns-then-second-start
returns-then-second-start c = record { value = search (rules, pair_falls); second_bound = λ h. absurd (false≢true h) }

pub returns : goal.returns
returns c = record { value = search (rules, pair_blocks); second_bound = pair_fits c.is_block.result c.is_block-2.result _ c.is_block-2.ensures.start_bound }
