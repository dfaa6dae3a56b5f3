use Rattle.std.proofs.Common.{◌≡◌}
use Rattle.rules.specs.Blocks.{first_disconnected_block}
use Rattle.slices.specs.Blocks.{blocks_of}
use Rattle.slices.proofs.Apart.{left}
use Rattle.slices.proofs.basic_blocks.first_disconnected_block.Given as goal

abbrev pub invariant-loop-next : goal.invariant-loop-next
invariant-loop-next l = first_disconnected_block (blocks_of l.fn.blocks) ≡ first_disconnected_block (blocks_of (left l.blocks l.next-index l.previous))
