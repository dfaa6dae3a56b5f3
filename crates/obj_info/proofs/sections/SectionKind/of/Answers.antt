use Rattle.std.proofs.Common.{refl, arith}
use Rattle.rules.specs.Choice.{if}
use Rattle.obj_info.proofs.Rows.{kind_other}
use Rattle.obj_info.proofs.sections.SectionKind.of.Goals as goal

pub returns-in-1 : goal.returns-in-1
unfolding if
returns-in-1 c = rw c.in-1.is refl

pub returns-in-2 : goal.returns-in-2
unfolding if
returns-in-2 c = rw c.in-2.is refl

pub returns-in-3 : goal.returns-in-3
unfolding if
returns-in-3 c = rw c.in-3.is refl

pub returns-in_default : goal.returns-in_default
returns-in_default c = kind_other c.args.kind (omega arith) (omega arith) (omega arith)
