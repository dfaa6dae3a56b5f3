use Rattle.ppc.proofs.Named.{code_31, code_19, code_other, row_below, bits_below, primary_below}
use native.Mathlib.Omega.{arith}
use borrow.Author.Rules.{rules}
use Rattle.ppc.proofs.registers.code.Goals as goal

-- `ppc::registers::code`: by the primary opcode. Assumes nothing.
pub extended_codes-requires : goal.extended_codes-requires
extended_codes-requires c = search (rules, row_below)

pub returns-in-31 : goal.returns-in-31
returns-in-31 c = search (rules, code_31)

pub branch_bits-requires : goal.branch_bits-requires
branch_bits-requires c = search (rules, bits_below)

pub returns-in-19 : goal.returns-in-19
returns-in-19 c = search (rules, code_19)

pub primary_code-requires : goal.primary_code-requires
primary_code-requires c = omega (arith, primary_below c.args.w)

pub returns-in_default : goal.returns-in_default
returns-in_default c = code_other _ _ _ c.opcode.ensures (λ e. omega arith) (λ e. omega arith) c.primary_code.ensures
