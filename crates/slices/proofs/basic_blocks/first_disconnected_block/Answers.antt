-- Each block against the one before it.
use Rattle.std.proofs.Common.{sym, ◌∙◌}
use Rattle.slices.proofs.Apart.{first_left, apart_not, apart_here, apart_none}
use Rattle.slices.proofs.basic_blocks.first_disconnected_block.Goals as goal
use Rattle.slices.proofs.basic_blocks.first_disconnected_block.Goals.{in-Some+else-is_apart, in_default}

pub returns-then-is_apart : goal.returns-then-is_apart
returns-then-is_apart c =
    rw (c.loop-next.invariant, c.in-Some.is)
    (apart_here c.args.blocks.now c.loop-next.next-index c.in-Some.block c.loop-next-test.true (sym c.if-is_apart.ensures))

pub loop-next-preserved : goal.loop-next-preserved
loop-next-preserved c =
    elim c.match-previous.branch [
      | in-Some+else-is_apart w ↦ rw w.previous-is (c.loop-next.invariant ∙ rw w.in-Some.is (apart_not c.args.blocks.now c.loop-next.next-index w.in-Some.block c.loop-next-test.true (sym w.if-is_apart.ensures)))
      | in_default w ↦ rw w.previous-is (c.loop-next.invariant ∙ rw w.in_default.is (first_left c.args.blocks.now c.loop-next.next-index c.loop-next-test.true))
    ]

pub returns : goal.returns
returns c = rw c.loop-next.invariant (apart_none c.args.blocks.now c.loop-next.next-index c.loop-next.previous c.loop-next-test.false)
