use Rattle.std.proofs.Common.{arith}
use Rattle.obj.proofs.Ready.{whole_functions}
use Rattle.obj_info.proofs.Lookups.{functions_few, functions_chunked}
use Rattle.obj_info.proofs.info.ObjInfo.functions.Goals as goal

pub returns-clause-all : goal.returns-clause-all
returns-clause-all c = rw c.as_chunks.ensures.front (functions_chunked _ c.args.self.now.checked (whole_functions _ c.args.self.now.checked))

pub returns-clause-few : goal.returns-clause-few
returns-clause-few c = omega (arith, c.as_chunks.ensures.front_len, functions_few _ c.args.self.now.checked)
