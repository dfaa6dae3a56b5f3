-- What the check finds by itself, written down so that an edit of a clause is refused by it.
use Rattle.std.proofs.Common.{arith}
use Rattle.std.proofs.lemmas.Grind.{common_steps}
use Rattle.records_pending.proofs.pop.Goals as goal

pub returns-clause-highest : goal.returns-clause-highest
returns-clause-highest c = grind (arith, common_steps)

pub returns-clause-left : goal.returns-clause-left
returns-clause-left c = grind (arith, common_steps)

pub returns-clause-past : goal.returns-clause-past
returns-clause-past c = grind (arith, common_steps)
