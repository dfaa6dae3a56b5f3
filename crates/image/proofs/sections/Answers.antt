use Rattle.image.proofs.Parts.{sections_are, no_sections}
use Rattle.image.proofs.sections.Goals as goal

pub returns-then-head : goal.returns-then-head
returns-then-head c = sections_are _ _ _ c.head.ensures.0 c.head-2.ensures.0 _ c.if-head.true c.part.ensures

pub returns : goal.returns
returns c = no_sections _ _ _ c.head.ensures.0 c.head-2.ensures.0 c.if-head.false
