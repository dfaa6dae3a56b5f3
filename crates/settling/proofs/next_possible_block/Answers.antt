use Rattle.rules.specs.Settle.{next_possible_block}
use Rattle.settling.proofs.next_possible_block.Goals as goal

pub returns-in-At-clause-value : goal.returns-in-At-clause-value
unfolding next_possible_block
returns-in-At-clause-value c = rw c.in-At.is c.next_possible_block.ensures.value

pub returns-in-Behind-clause-value : goal.returns-in-Behind-clause-value
unfolding next_possible_block
returns-in-Behind-clause-value c = rw c.in-Behind.is c.next_possible_block_behind.ensures.value
