use Rattle.std.proofs.Common.{ap, ◌∙◌}
use Rattle.rules.specs.Sequences.{check_epilogue_sequence}
use Rattle.walks.proofs.CodeWords.{from_word}
use Rattle.walks.proofs.code.begins_epilogue.Goals as goal

pub returns : goal.returns
returns c = c.check_epilogue_sequence.ensures ∙ ap check_epilogue_sequence (from_word _ _ _ _ _ c.code.ensures.is.base c.code_bytes.ensures.words c.word_start.ensures)
