use Rattle.std.proofs.Common.{refl}
use Rattle.rules.specs.Plain.{plain}
use Rattle.execution.proofs.plain.is_plain.Goals as goal

pub returns : goal.returns
unfolding plain
returns c = rw (c.is_stwu.ensures, c.is_mflr.ensures, c.is_mtlr.ensures, c.is_or.ensures, c.is_lwz.ensures, c.is_conditional_blr.ensures, c.is_rfi.ensures) refl
