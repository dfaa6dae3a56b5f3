use Rattle.std.proofs.Common.{arith, rules}
use Rattle.obj_info.proofs.Lookups.{bytes_end, bytes_words}
use Rattle.obj_info.proofs.info.ObjInfo.code_bytes.Goals as goal

pub overflow_add-result : goal.overflow_add-result
overflow_add-result c = omega (arith, bytes_end _ c.args.self.now.checked _ c.args.self.now.is_code)

pub slice_bounds-result-end : goal.slice_bounds-result-end
slice_bounds-result-end c = let h = bytes_end _ c.args.self.now.checked _ c.args.self.now.is_code in search rules

pub returns-clause-words : goal.returns-clause-words
returns-clause-words c = bytes_words _ c.args.self.now.checked _ c.args.self.now.is_code _ (omega arith)
