-- Section by section. Assumes nothing.
use Rattle.std.proofs.Common.{arith}
use Rattle.obj_image.proofs.SectionRows.{located}
use Rattle.obj_image.proofs.Chains.{lies_here, lies_later, lies_nowhere}
use Rattle.obj_image.proofs.sections.locate.Goals as goal

pub returns-then-contains : goal.returns-then-contains
returns-then-contains c =
    located _ _ _
    (lies_here c.args.sections.now c.requires.whole c.as_chunks.result.0.now c.as_chunks.ensures.front c.args.a c.loop-row.number c.loop-row.row-index c.loop-row.invariant.1 _ _ _ _ c.loop-row-test.true c.from.ensures c.contains.ensures c.if-contains.true c.wide.ensures.0)

pub loop-row-preserved : goal.loop-row-preserved
loop-row-preserved c = (
  omega (arith, c.loop-row.invariant.0),
  lies_later c.args.sections.now c.requires.whole c.as_chunks.result.0.now c.as_chunks.ensures.front c.args.a c.loop-row.number c.loop-row.row-index c.loop-row.invariant.1 _ _ _ c.loop-row-test.true c.from.ensures c.contains.ensures c.if-contains.false,
)

pub returns : goal.returns
returns c =
    located _ _ _
    (lies_nowhere c.args.sections.now c.requires.whole c.as_chunks.result.0.now c.as_chunks.ensures.front c.args.a c.loop-row.number c.loop-row.row-index c.loop-row.invariant.1 (omega (arith, c.loop-row-test.false)))
