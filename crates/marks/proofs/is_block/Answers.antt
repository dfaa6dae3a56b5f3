use Rattle.marks.proofs.Checks.{aligned_block, unaligned_block, aligned_fits}
use Rattle.std.proofs.Common.{◌+◌, ◌<◌, rules}
use mathlib.Core.Bool.{false≢true}
use Rattle.marks.proofs.is_block.Goals as goal

pub returns-then-start-end-eq0 : goal.returns-then-start-end-eq0
returns-then-start-end-eq0 c = let a = c.args in
    let k : a.start + 1 < 18446744073709551616 = aligned_fits a.start a.end c.if-start-end-eq0.true c.ranges.start.fits in
    record { value = search (rules, aligned_block); start_bound = λ _. k }

pub returns : goal.returns
returns c = record { value = search (rules, unaligned_block); start_bound = λ h. absurd (false≢true h) }
