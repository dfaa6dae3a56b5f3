use Rattle.std.proofs.Common.{arith, refl}
use Rattle.walks.proofs.CodeWords.{above, word_start}
use Rattle.walks.proofs.code.word_start.Goals as goal

pub overflow_sub-result : goal.overflow_sub-result
overflow_sub-result c = omega (arith, above _ _ c.requires, c.code.ensures.is.base)

pub returns : goal.returns
returns c = word_start _ _ c.requires _ _ _ c.code.ensures.is.base refl refl
