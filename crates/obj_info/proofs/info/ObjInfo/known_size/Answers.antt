use Rattle.std.proofs.Common.{List, ap, ◌∙◌}
use Rattle.rules.specs.Image.{Symbol}
use Rattle.rules.specs.JumpTable.{known_size}
use Rattle.obj_image.specs.Lent.{Lent, image}
use Rattle.obj_info.specs.Info.{lent_of, some_nonzero}
use Rattle.obj_info.proofs.Tables.{objects_same}
use Rattle.obj_info.proofs.info.ObjInfo.known_size.Goals as goal

pub returns : goal.returns
returns c =
    c.known_size.ensures ∙ ap (λ (l : Lent). some_nonzero (known_size c.args.a (image l).objects)) c.tables.ensures
    ∙ ap (λ (os : List Symbol). some_nonzero (known_size c.args.a os)) (objects_same (lent_of c.args.self.now))
