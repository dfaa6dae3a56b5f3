use Rattle.std.proofs.Common.{arith}
use Rattle.rules.specs.Image.{code_words}
use Rattle.walks.proofs.CodeWords.{above, below, whole_words, word_is}
use Rattle.walks.proofs.code.word_in.Goals as goal

pub overflow_sub-word : goal.overflow_sub-word
overflow_sub-word c = omega (arith, above _ _ c.requires, c.code.ensures.is.base)

pub nth_word-requires : goal.nth_word-requires
unfolding code_words
nth_word-requires c = omega (arith, above _ _ c.requires, below _ _ c.requires, c.code.ensures.is.base, whole_words _ c.args.obj.now.checked)

pub returns : goal.returns
returns c = word_is _ _ c.requires _ _ (omega (arith, c.code.ensures.is.base)) c.nth_word.ensures
