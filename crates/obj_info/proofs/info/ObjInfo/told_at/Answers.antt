use Rattle.obj.proofs.Ready.{at_address}
use Rattle.obj_info.proofs.info.ObjInfo.told_at.Goals as goal

pub told_at-requires : goal.told_at-requires
told_at-requires c = at_address _ c.args.self.now.checked _ c.args.self.now.is_code _ c.requires
