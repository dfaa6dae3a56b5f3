use Rattle.std.proofs.Common.{arith}
use Rattle.rules.specs.Image.{code_words}
use Rattle.rules.proofs.Passes.{checked_of}
use Rattle.walks.proofs.CodeWords.{nth_is}
use Rattle.walks.proofs.code.nth_word.Goals as goal

pub overflow_mul-word : goal.overflow_mul-word
unfolding code_words
overflow_mul-word c = omega (arith, c.requires, (checked_of _ c.args.obj.now.checked).sound.fits)

pub word_at-requires : goal.word_at-requires
unfolding code_words
word_at-requires c = omega (arith, c.requires, c.code_bytes.ensures.len)

pub returns : goal.returns
returns c = nth_is c.code_bytes.result.now _ _ _ _ c.code_bytes.ensures.words c.word_at.ensures
