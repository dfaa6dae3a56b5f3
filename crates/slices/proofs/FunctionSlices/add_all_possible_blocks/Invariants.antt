use Rattle.std.proofs.Common.{◌≡◌, drop}
use Rattle.rules.specs.Slices.{add_all_possible_blocks}
use Rattle.slices.specs.View.{slices_of}
use Rattle.slices.proofs.FunctionSlices.add_all_possible_blocks.Given as goal

abbrev pub invariant-loop-addr : goal.invariant-loop-addr
invariant-loop-addr l = add_all_possible_blocks l.addrs (slices_of l.fn.self) ≡ add_all_possible_blocks (drop l.addr-index l.addrs) (slices_of l.self)
