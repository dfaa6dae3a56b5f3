use Rattle.std.proofs.Common.{sym, ◌∙◌, arith}
use Rattle.rules.proofs.Runs.{check_most}
use Rattle.obj.proofs.Ready.{few_sections}
use Rattle.obj_image.specs.Lent.{lent, given}
use Rattle.obj_info.proofs.info.ObjInfo.new.Goals as goal

pub code_section-requires : goal.code_section-requires
code_section-requires c = few_sections (lent c.args.sections.now c.args.bytes.now c.args.outcomes.now c.args.functions.now c.args.objects.now c.args.skips.now c.args.entry.now) (sym c.check.ensures ∙ c.in-0.is)

pub returns-in_default-clause-err : goal.returns-in_default-clause-err
returns-in_default-clause-err c = omega (arith, c.check.ensures, check_most (given (lent c.args.sections.now c.args.bytes.now c.args.outcomes.now c.args.functions.now c.args.objects.now c.args.skips.now c.args.entry.now)))
