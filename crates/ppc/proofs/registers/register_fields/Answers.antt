use mathlib.Core.Path.{◌∙◌}
use native.Mathlib.Omega.{arith}
use Rattle.ppc.proofs.Named.{low_code}
use Rattle.ppc.proofs.registers.register_fields.Goals as goal

-- `ppc::registers::register_fields`: the four lowest bits of the code. Assumes nothing.
pub returns : goal.returns
returns c = (low_code c.code.result ∙ c.code.ensures.fields, omega arith)
