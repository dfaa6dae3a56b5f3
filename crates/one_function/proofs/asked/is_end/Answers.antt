use Rattle.std.proofs.Common.{arith}
use Rattle.std.proofs.lemmas.Bool.Decides.{nat_tests}
use Rattle.rules.specs.OneFunction.{is_end}
use Rattle.one_function.proofs.asked.is_end.Goals as goal
use Rattle.one_function.proofs.asked.is_end.Goals.{then-start-end, else-start-end}

pub returns-then-end-eq0 : goal.returns-then-end-eq0
unfolding is_end
returns-then-end-eq0 c = grind (arith, nat_tests)

pub returns-then-end-start-le-MOST : goal.returns-then-end-start-le-MOST
unfolding is_end
returns-then-end-start-le-MOST c = elim c.if-start-end.branch [ then-start-end w ↦ grind (arith, nat_tests) | else-start-end w ↦ grind (arith, nat_tests) ]

pub returns-else-end-start-le-MOST : goal.returns-else-end-start-le-MOST
unfolding is_end
returns-else-end-start-le-MOST c = elim c.if-start-end.branch [ then-start-end w ↦ grind (arith, nat_tests) | else-start-end w ↦ grind (arith, nat_tests) ]
