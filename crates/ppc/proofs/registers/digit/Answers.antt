use Prim.Native.Nat.{◌<◌}
use native.Mathlib.Omega.{arith}
use lib.Bits.{and_mask}
use Rattle.ppc.proofs.Mask.{bit_at}
use Rattle.ppc.proofs.registers.digit.Goals as goal

-- `ppc::registers::digit`: the mask is a remainder. Assumes nothing.
pub returns : goal.returns
returns g c = let h : g.row.BITS < 64 = omega (arith, c.requires.0) in rw (bit_at 64 _ h) (and_mask _ g.row.BITS)
