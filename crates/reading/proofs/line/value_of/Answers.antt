use Rattle.std.proofs.Common.{◌∙◌, ap, unwrap_or, arith}
use Rattle.reading.proofs.Digits.{read_start, read_room, read_next, read_all, small_or_0}
use Rattle.reading.proofs.line.value_of.Goals as goal

pub loop-byte-init : goal.loop-byte-init
loop-byte-init c = read_start _

pub overflow_mul-value : goal.overflow_mul-value
overflow_mul-value c = let h = read_room c.loop-byte.invariant c.requires c.loop-byte-test.true in omega (arith, h)

pub overflow_add-value : goal.overflow_add-value
overflow_add-value c = let h = read_room c.loop-byte.invariant c.requires c.loop-byte-test.true in omega (arith, h, small_or_0 c.digit.result c.digit.ensures.small, c.unwrap_or.ensures)

pub loop-byte-preserved : goal.loop-byte-preserved
loop-byte-preserved c =
    read_next c.loop-byte.invariant c.loop-byte-test.true
    (c.unwrap_or.ensures ∙ ap (λ r. unwrap_or r 0) c.digit.ensures.value)
    (rw c.unwrap_or.ensures (small_or_0 c.digit.result c.digit.ensures.small))

pub returns : goal.returns
returns c = read_all c.loop-byte.invariant c.loop-byte-test.false
