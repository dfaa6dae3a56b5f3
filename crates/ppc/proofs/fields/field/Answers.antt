use lib.Pow.{pow_pos}
use lib.Bits.{and_mask}
use Rattle.ppc.proofs.Mask.{bit_at}
use Rattle.ppc.proofs.fields.field.Goals as goal

-- `ppc::fields::field` is the field of `rules`, at any place and width: the mask is a remainder. Assumes nothing.
pub overflow_sub-result : goal.overflow_sub-result
overflow_sub-result c = rw (bit_at 32 _ c.requires.1) (pow_pos c.args.number)

pub returns : goal.returns
returns c = rw (bit_at 32 _ c.requires.1) (and_mask _ c.args.number)
