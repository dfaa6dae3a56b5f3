use Rattle.std.proofs.Common.{ap, ◌∙◌}
use Rattle.rules.specs.Image.{section_at}
use Rattle.obj_image.specs.Lent.{Lent, image}
use Rattle.obj_info.specs.Info.{lent_of}
use Rattle.obj_info.proofs.Tables.{section_same}
use Rattle.obj_info.proofs.info.ObjInfo.section_at.Goals as goal

pub returns : goal.returns
returns c = c.section_at.ensures ∙ ap (λ (l : Lent). section_at (image l) c.args.key) c.tables.ensures ∙ section_same (lent_of c.args.self.now) c.args.key
