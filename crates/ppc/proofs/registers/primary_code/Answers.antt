use Rattle.rules.specs.Choice.{if}
use Rattle.rules.specs.Registers.{primary_table}
use Rattle.ppc.specs.Codes.{primary_codes, is_branch_primary}
use Rattle.ppc.proofs.Table.{primary_at}
use borrow.Author.Rules.{rules}
use Rattle.ppc.proofs.registers.primary_code.Goals as goal

-- `ppc::registers::primary_code`: the table is the one that the rows of `rules` give, which antt computes. Assumes nothing.
pub returns : goal.returns
unfolding primary_codes if primary_table is_branch_primary
returns c = rw c.from.ensures (primary_at c.args.p (search rules))
