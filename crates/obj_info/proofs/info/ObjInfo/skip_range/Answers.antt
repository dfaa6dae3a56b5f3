use Rattle.obj.proofs.Ready.{skips_rise}
use Rattle.obj_info.proofs.info.ObjInfo.skip_range.Goals as goal

pub skip_range-requires : goal.skip_range-requires
skip_range-requires c = skips_rise _ c.args.self.now.checked
