use Rattle.obj_info.proofs.Lookups.{in_code_is}
use Rattle.obj_info.proofs.info.ObjInfo.is_code_address.Goals as goal

pub returns : goal.returns
returns c = rw (c.section_of.ensures, c.is_inside.ensures, c.address_of.ensures) (in_code_is _ c.args.self.now.checked _ c.args.self.now.is_code c.args.key)
