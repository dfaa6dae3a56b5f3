use borrow.Author.Tests.{lt-ltb, le-ltb}
use Rattle.rules.specs.Choice.{if_true, if_false}
use Rattle.records_blocks.proofs.look.Goals as goal

pub returns-then-len-count : goal.returns-then-len-count
returns-then-len-count c = let a = c.args in rw (if_true (lt-ltb a.len a.count c.if-len-count.true) 0 a.count)

pub returns-else-len-count : goal.returns-else-len-count
returns-else-len-count c = let a = c.args in rw (if_false (le-ltb a.len a.count c.if-len-count.false) 0 a.count)
