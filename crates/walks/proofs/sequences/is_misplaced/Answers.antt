use Rattle.std.proofs.Common.{◌∙◌}
use borrow.Author.Tests.{lt-ltb, le-ltb}
use Rattle.walks.proofs.Options.{or_first, or_second}
use Rattle.walks.proofs.sequences.is_misplaced.Goals as goal

pub returns-then-addr-prologue : goal.returns-then-addr-prologue
returns-then-addr-prologue c = or_first _ _ (lt-ltb _ _ c.if-addr-prologue.true)

pub returns-else-addr-prologue : goal.returns-else-addr-prologue
returns-else-addr-prologue c = c.any_terminator.ensures ∙ or_second _ _ (le-ltb _ _ c.if-addr-prologue.false)
