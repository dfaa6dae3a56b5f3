use mathlib.Core.Path.{refl}
use Rattle.rules.specs.Choice.{if}
use Rattle.ppc.specs.Codes.{branch_bits, digits, is_branch_extended}
use Rattle.ppc.proofs.registers.branch_bits.Goals as goal

-- `ppc::registers::branch_bits`: the table is the one that the rows of `rules` give, which antt computes. Assumes nothing.
pub returns : goal.returns
unfolding branch_bits digits if is_branch_extended
returns c = refl
