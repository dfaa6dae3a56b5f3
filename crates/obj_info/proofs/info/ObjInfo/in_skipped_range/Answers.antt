use Rattle.obj.proofs.Ready.{skips_rise}
use Rattle.obj_info.proofs.info.ObjInfo.in_skipped_range.Goals as goal

pub in_skipped_range-requires : goal.in_skipped_range-requires
in_skipped_range-requires c = skips_rise _ c.args.self.now.checked
