use Rattle.std.proofs.Common.{sym}
use Rattle.tables.proofs.Groups.{last_read}
use Rattle.tables.proofs.multimap.may_follow.Goals as goal

pub returns-in-Some : goal.returns-in-Some
returns-in-Some c = last_read c.args.way.from c.in-Some.last.now c.args.ways.now (sym c.in-Some.ensures.value)
