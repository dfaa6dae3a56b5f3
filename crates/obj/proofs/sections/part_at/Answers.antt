use borrow.Author.Rules.{rules}
use borrow.Author.Tests.{tests}
use native.Mathlib.Omega.{arith}
use Rattle.obj.proofs.Part.{part_some, part_none}
use Rattle.obj.proofs.sections.part_at.Goals as goal

-- `obj::sections::part_at` is the section at an index, with where its bytes begin. Assumes nothing.
pub returns-in_default : goal.returns-in_default
returns-in_default c = part_none c.args.i 0 c.args.sections.now _ (search (rules, tests)) (omega (arith, c.count_bytes.ensures))

pub returns : goal.returns
returns c = part_some c.args.i 0 c.args.sections.now c.from-section.result _ (search (rules, tests)) (search rules) (omega arith)
