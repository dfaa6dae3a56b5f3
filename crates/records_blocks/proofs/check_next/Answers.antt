use Rattle.records_blocks.proofs.Turns.{check_good, check_unsound, check_low, check_no_block}
use Rattle.records_blocks.proofs.check_next.Goals as goal

pub overflow_add-result : goal.overflow_add-result
overflow_add-result c = record { fits = c.is_block.ensures.start_bound c.if-is_block.true }

pub returns-then-is_block : goal.returns-then-is_block
returns-then-is_block c = check_good _ _ c.if-check.true c.if-check-b.true _ c.is_block.ensures.value c.if-is_block.true

pub returns-else-is_block : goal.returns-else-is_block
returns-else-is_block c = check_no_block _ _ c.if-check.true c.if-check-b.true _ c.is_block.ensures.value c.if-is_block.false

pub returns-else-check-b : goal.returns-else-check-b
returns-else-check-b c = check_low _ _ c.if-check.true c.if-check-b.false

pub returns-else-check : goal.returns-else-check
returns-else-check c = check_unsound _ _ c.if-check.false
