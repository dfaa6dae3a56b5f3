use Rattle.std.proofs.lemmas.Slice.Zip.{either_empty_from_Zip}
use Rattle.printing.proofs.Lines.{lines_first, line_room, lines_next, lines_end}
use Rattle.printing.proofs.line.Text.put_lines.Goals as goal

pub loop-first-init : goal.loop-first-init
loop-first-init c = lines_first _ _ _ _ _ _ (cc) (cc) c.requires

pub put_line-requires : goal.put_line-requires
put_line-requires c = line_room _ c.in-Some.ensures.steps.0 c.in-Some.ensures.steps.1 c.loop-first.invariant

pub loop-first-preserved : goal.loop-first-preserved
loop-first-preserved c = lines_next _ c.in-Some.ensures.steps.0 c.in-Some.ensures.steps.1 c.loop-first.invariant c.put_line.ensures

pub returns : goal.returns
returns c = lines_end _ _ _ _ _ _ (either_empty_from_Zip c.loop-first.first-iterator c.next.new.self c.next.result c.in-None.is c.next.ensures.steps) c.loop-first.invariant
