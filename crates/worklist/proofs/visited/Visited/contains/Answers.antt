use Rattle.std.proofs.Common.{◌/◌, ◌%◌, ◌^◌, refl}
use lib.Bits.{and_mask}
use lib.ListN.{get_or}
use Rattle.worklist.specs.Bits.{bit}
use Rattle.worklist.proofs.visited.Visited.contains.Goals as goal

pub returns : goal.returns
unfolding bit
returns c = rw (and_mask (get_or c.self.inside.bits (c.args.word / 32) 0 / 2 ^ (c.args.word % 32)) 1, c.self.view_is) refl
