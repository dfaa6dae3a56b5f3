use Rattle.obj_info.specs.Info.{image_of}
use Rattle.walks.specs.State.{walk_of}
use Rattle.execution.proofs.Steps.{outside, elsewhere, walked_before, taken}
use Rattle.execution.proofs.take_pending.Goals as goal
use Rattle.execution.proofs.take_pending.Goals.{else-section_of-code-via-then-section_of-code+else-not-is_seen, else-section_of-code-via-else-section_of-code}

pub returns-then-not-is_in_section : goal.returns-then-not-is_in_section
returns-then-not-is_in_section c = λ e i. outside e (image_of c.args.obj.now) i c.args.addr (walk_of c.args.walk.now) _ c.is_in_section.ensures c.if-not-is_in_section.true

pub returns-then-not-is_seen : goal.returns-then-not-is_seen
returns-then-not-is_seen c = λ e i.
    taken e (image_of c.args.obj.now) i c.args.addr (walk_of c.args.walk.now) _ c.is_in_section.ensures c.if-not-is_in_section.false _ _ c.section_of.ensures c.code.ensures.is.number c.if-section_of-code.true _ c.is_seen.ensures c.if-not-is_seen.true

pub returns-else-section_of-code : goal.returns-else-section_of-code
returns-else-section_of-code c = λ e i. elim c.else-section_of-code.branch [
  | else-section_of-code-via-then-section_of-code+else-not-is_seen w ↦
      walked_before e (image_of c.args.obj.now) i c.args.addr (walk_of c.args.walk.now) _ c.is_in_section.ensures c.if-not-is_in_section.false _ _ c.section_of.ensures c.code.ensures.is.number w.if-section_of-code.true _ w.is_seen.ensures w.if-not-is_seen.false
  | else-section_of-code-via-else-section_of-code w ↦
      elsewhere e (image_of c.args.obj.now) i c.args.addr (walk_of c.args.walk.now) _ c.is_in_section.ensures c.if-not-is_in_section.false _ _ c.section_of.ensures c.code.ensures.is.number w.if-section_of-code.false
]
