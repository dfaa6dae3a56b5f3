use Rattle.std.proofs.Common.{sym, ◌∙◌}
use Rattle.rules.specs.Choice.{if_true, if_false}
use Rattle.passes.proofs.apart.block_apart.Goals as goal

pub returns-then-is_nowhere : goal.returns-then-is_nowhere
returns-then-is_nowhere c = sym (if_true (sym c.is_nowhere.ensures ∙ c.if-is_nowhere.true) _ _)

pub returns : goal.returns
returns c = c.first_disconnected_block.ensures ∙ sym (if_false (sym c.is_nowhere.ensures ∙ c.if-is_nowhere.false) _ _)
