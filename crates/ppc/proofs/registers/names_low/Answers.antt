use Rattle.ppc.proofs.Named.{code_low}
use Rattle.ppc.proofs.registers.names_low.Goals as goal

-- `ppc::registers::names_low`: bit by bit of the code. Assumes nothing.
pub returns : goal.returns
returns c = cc (code_low c.args.c c.args.w)
