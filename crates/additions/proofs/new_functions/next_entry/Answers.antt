use Rattle.std.proofs.Common.{◌∙◌}
use Rattle.rules.specs.Known.{new_entry}
use Rattle.rules.specs.Map.{section_end}
use Rattle.obj_info.specs.Info.{image_of}
use Rattle.additions.proofs.Search.{next_there, next_end}
use Rattle.additions.proofs.new_functions.next_entry.Goals as goal

pub returns-in-Some : goal.returns-in-Some
returns-in-Some c = λ cap es h. next_there _ es h _ _ c.in-Some.next.now c.in-Some.ensures.lookup.3.0 c.in-Some.ensures.lookup.3.1

pub returns-in-None : goal.returns-in-None
returns-in-None c = λ cap es h. c.section_end.ensures cap ∙ next_end _ es h c.args.i (new_entry (section_end (image_of c.args.obj.now) cap)) c.in-None.ensures.lookup.3
