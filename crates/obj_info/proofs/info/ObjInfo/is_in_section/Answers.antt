use Rattle.obj.proofs.Ready.{few_sections}
use Rattle.obj_info.proofs.info.ObjInfo.is_in_section.Goals as goal

pub is_in_section-requires : goal.is_in_section-requires
is_in_section-requires c = few_sections _ c.args.self.now.checked
