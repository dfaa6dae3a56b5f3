use Rattle.std.proofs.Common.{sym, ◌∙◌, arith, rules}
use Rattle.marks.proofs.Checks.{table_starts, pair_fails, pair_next}
use Rattle.marks.proofs.is_table.Goals as goal

pub loop-next-init : goal.loop-next-init
loop-next-init c = (omega arith, omega arith, search (rules, table_starts))

pub overflow_add-least : goal.overflow_add-least
overflow_add-least c = record { fits = c.is_pair.ensures.second_bound c.if-is_pair.true }

pub loop-next-preserved : goal.loop-next-preserved
loop-next-preserved c = (omega arith, omega arith, search (rules, pair_next))

pub returns-else-is_pair : goal.returns-else-is_pair
returns-else-is_pair c = search (rules, pair_fails)

pub is_rest-requires : goal.is_rest-requires
is_rest-requires c = (search rules, search rules, search rules, omega arith)

pub returns : goal.returns
returns c = c.is_rest.ensures ∙ sym c.loop-next.invariant.2
