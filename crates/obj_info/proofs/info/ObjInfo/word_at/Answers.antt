use Rattle.std.proofs.Common.{arith}
use Rattle.obj_info.proofs.Lookups.{address_low, word_end, word_there}
use Rattle.obj_info.proofs.info.ObjInfo.word_at.Goals as goal

pub overflow_sub-i : goal.overflow_sub-i
overflow_sub-i c = rw c.address_of.ensures (address_low _ c.args.self.now.checked _ c.args.self.now.is_code _ c.requires)

pub overflow_add-self : goal.overflow_add-self
overflow_add-self c = omega (arith, c.address_of.ensures, word_end _ c.args.self.now.checked _ c.args.self.now.is_code c.args.key c.requires)

pub word_at-requires : goal.word_at-requires
word_at-requires c = rw c.address_of.ensures (word_end _ c.args.self.now.checked _ c.args.self.now.is_code _ c.requires)

pub returns : goal.returns
returns c = word_there _ c.args.self.now.checked _ c.args.self.now.is_code _ _ c.requires (rw c.address_of.ensures at c.word_at.ensures)
