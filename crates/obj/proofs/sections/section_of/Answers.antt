use mathlib.Core.Path.{sym, ap, ◌∙◌}
use Rattle.obj.specs.Sections.{part_in}
use Rattle.obj_image.proofs.Chains.{section_rows}
use Rattle.obj.proofs.Part.{part_is}
use Rattle.obj.proofs.sections.section_of.Goals as goal

-- `obj::sections::section_of` is the section of an address in `rules`. Assumes nothing.
pub returns : goal.returns
returns c = part_is c.args.sections.now c.args.key c.index_of.result c.part_at.result c.index_of.ensures (c.part_at.ensures ∙ ap (part_in c.index_of.result 0) (sym (section_rows c.args.sections.now c.requires.whole c.as_chunks.result.0.now c.as_chunks.ensures.front)))
