use Rattle.std.proofs.Common.{arith}
use Rattle.obj_info.proofs.Lookups.{number_small, entry_found, no_entry}
use Rattle.obj_info.specs.Info.{lent_of}
use Rattle.obj_info.proofs.info.ObjInfo.entry.Goals as goal

pub overflow_mul-result : goal.overflow_mul-result
overflow_mul-result c = omega (arith, (number_small _ c.args.self.now.checked _ c.args.self.now.is_code).0)

pub overflow_add-result : goal.overflow_add-result
overflow_add-result c = omega (arith, (number_small _ c.args.self.now.checked _ c.args.self.now.is_code).0)

pub returns-in-empty : goal.returns-in-empty
returns-in-empty c = no_entry (lent_of c.args.self.now) c.in-empty.len_below

pub returns-in-len1-up : goal.returns-in-len1-up
returns-in-len1-up c = entry_found _ c.args.self.now.checked _ c.args.self.now.is_code _ c.in-len1-up.len_at_least c.from.ensures
