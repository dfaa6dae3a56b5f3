use Rattle.std.proofs.Common.{arith}
use Rattle.obj_info.proofs.Lookups.{this_word, no_word_this}
use Rattle.obj_info.proofs.info.ObjInfo.is_word.Goals as goal

pub returns-in-Some : goal.returns-in-Some
returns-in-Some c = this_word _ _ _ c.in-Some.ensures.value

pub returns-in-None : goal.returns-in-None
returns-in-None c = no_word_this _ c.args.other c.in-None.ensures.none (omega arith)
