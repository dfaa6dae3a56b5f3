use Rattle.obj.proofs.Ready.{objects_rise}
use Rattle.obj_info.proofs.Tables.{tables_pass}
use Rattle.obj_info.specs.Info.{lent_of}
use Rattle.obj_info.proofs.info.ObjInfo.tables.Goals as goal

pub new-requires-clause-passed : goal.new-requires-clause-passed
new-requires-clause-passed c = tables_pass (lent_of c.args.self.now) c.args.self.now.checked

pub new-requires-clause-objects : goal.new-requires-clause-objects
new-requires-clause-objects c = objects_rise _ c.args.self.now.checked

pub returns : goal.returns
returns c = c.new.ensures
