use Rattle.std.proofs.Common.{refl}
use Rattle.obj.proofs.Ready.{outcome_row_end}
use Rattle.obj_info.specs.Info.{lent_of}
use Rattle.obj_info.proofs.info.ObjInfo.goes_on.Goals as goal

pub goes_on-requires : goal.goes_on-requires
goes_on-requires c = outcome_row_end _ c.args.self.now.checked _ c.requires

pub returns : goal.returns
returns c = c.goes_on.ensures (lent_of c.args.self.now) refl
