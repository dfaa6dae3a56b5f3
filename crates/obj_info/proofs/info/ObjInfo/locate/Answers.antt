use Rattle.std.proofs.Common.{ap, ◌∙◌}
use Rattle.rules.specs.Image.{locate}
use Rattle.obj_image.specs.Lent.{Lent, image}
use Rattle.obj_info.specs.Info.{lent_of, some_nonzero}
use Rattle.obj_info.proofs.Tables.{locate_same}
use Rattle.obj_info.proofs.info.ObjInfo.locate.Goals as goal

pub returns-clause-value : goal.returns-clause-value
returns-clause-value c = c.locate.ensures.value ∙ ap (λ (l : Lent). some_nonzero (locate (image l) c.args.a)) c.tables.ensures ∙ ap some_nonzero (locate_same (lent_of c.args.self.now) c.args.a)
