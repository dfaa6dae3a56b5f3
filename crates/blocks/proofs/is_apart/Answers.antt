use borrow.Author.Rules.{rules}
use Rattle.blocks.proofs.Checks.{open_first, open_second, both_closed}
use Rattle.blocks.proofs.is_apart.Goals as goal

pub returns-then-end-eq0 : goal.returns-then-end-eq0
returns-then-end-eq0 c = search (rules, open_first)

pub returns-then-until-eq0 : goal.returns-then-until-eq0
returns-then-until-eq0 c = search (rules, open_second)

pub returns : goal.returns
returns c = search (rules, both_closed)
