use borrow.Author.Rules.{rules}
use Rattle.obj.proofs.Numbers.{few_passed, check_one, check_two, check_three, check_none}
use Rattle.obj.proofs.checks.check.Goals as goal

-- `obj::checks::check` is `check` of `rules`. Assumes nothing.
pub check_outcomes-requires : goal.check_outcomes-requires
check_outcomes-requires c = few_passed _ _ _ c.check_image.ensures c.if-not-check_image.false

pub check_rest-requires : goal.check_rest-requires
check_rest-requires c = few_passed _ _ _ c.check_image.ensures c.if-not-check_image.false

pub returns-then-not-check_image : goal.returns-then-not-check_image
returns-then-not-check_image c = search (rules, check_one)

pub returns-then-not-check_outcomes : goal.returns-then-not-check_outcomes
returns-then-not-check_outcomes c = search (rules, check_two)

pub returns-then-not-check_rest : goal.returns-then-not-check_rest
returns-then-not-check_rest c = search (rules, check_three)

pub returns-else-not-check_rest : goal.returns-else-not-check_rest
returns-else-not-check_rest c = search (rules, check_none)
