use Rattle.std.proofs.Common.{arith}
use Rattle.runs.proofs.Insertion.{kept}
use Rattle.runs.proofs.vectors.move_within.Goals as goal

pub returns-else-from-to : goal.returns-else-from-to
returns-else-from-to g c = kept c.args.items.now c.args.from c.args.until c.args.to (omega (arith, c.if-from-to.false))
