use mathlib.Core.Path.{refl}
use Rattle.rules.specs.Choice.{if}
use Rattle.rules.specs.Registers.{extended_rows, arithmetic_table, extended_table}
use Rattle.ppc.specs.Codes.{extended_codes, digits}
use Rattle.ppc.proofs.registers.extended_codes.Goals as goal

-- `ppc::registers::extended_codes`: the table is the one that the rows of `rules` give, which antt computes. Assumes nothing.
pub returns : goal.returns
unfolding extended_codes digits if extended_rows extended_table arithmetic_table
returns c = refl
