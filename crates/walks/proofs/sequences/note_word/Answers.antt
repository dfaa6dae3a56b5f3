use Rattle.rules.specs.Step.{note_word}
use Rattle.slices.specs.View.{slices_of}
use Rattle.walks.proofs.sequences.note_word.Goals as goal

pub returns : goal.returns
unfolding note_word slices_of
returns c = λ im w. rw (← w, ← c.is_conditional_blr.ensures, ← c.is_rfi.ensures) c.discard_possible_block.ensures
