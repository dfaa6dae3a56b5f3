use Rattle.worklist.proofs.Bits.{bits_none}
use Rattle.worklist.proofs.visited.Visited.clear.Goals as goal

pub returns : goal.returns
returns c = bits_none 2048
