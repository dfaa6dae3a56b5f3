use mathlib.Core.Path.{sym, ◌∙◌}
use Rattle.rules.specs.Choice.{if_true, if_false}
use Rattle.ppc.proofs.branches.origin.Goals as goal

-- `ppc::branches::origin`: 0 in the absolute form, else the address. Assumes nothing.
pub returns-then-is_absolute : goal.returns-then-is_absolute
returns-then-is_absolute c = sym (if_true (sym c.is_absolute.ensures ∙ c.if-is_absolute.true) _ _)

pub returns-else-is_absolute : goal.returns-else-is_absolute
returns-else-is_absolute c = sym (if_false (sym c.is_absolute.ensures ∙ c.if-is_absolute.false) _ _)
