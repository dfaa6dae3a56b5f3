use Rattle.image.proofs.Parts.{entry_is, no_entry, whole_refused}
use Rattle.image.proofs.entry.Goals as goal

pub returns-then-head-eq0 : goal.returns-then-head-eq0
returns-then-head-eq0 c = entry_is _ _ c.head.ensures.0 _ c.if-head-eq0.true c.part.ensures

pub slice_bounds-result-end : goal.slice_bounds-result-end
slice_bounds-result-end c = whole_refused _ _ c.head.ensures.0 c.if-head-eq0.false

pub returns : goal.returns
returns c = no_entry _ _ c.head.ensures.0 c.if-head-eq0.false
