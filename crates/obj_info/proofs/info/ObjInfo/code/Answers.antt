use Rattle.obj_info.proofs.Lookups.{number_small, code_end}
use Rattle.obj_info.proofs.info.ObjInfo.code.Goals as goal

pub returns-clause-number : goal.returns-clause-number
returns-clause-number c = (number_small _ c.args.self.now.checked _ c.args.self.now.is_code).0

pub returns-clause-end : goal.returns-clause-end
returns-clause-end c = code_end _ c.args.self.now.checked _ c.args.self.now.is_code
