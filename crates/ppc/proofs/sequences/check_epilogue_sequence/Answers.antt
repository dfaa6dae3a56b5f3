use mathlib.Core.Path.{sym, ◌∙◌}
use Rattle.rules.specs.Words.{is_mtlr, is_addi, is_or}
use Rattle.rules.specs.Sequences.{check_epilogue_sequence, epilogue_pairs}
use Rattle.ppc.proofs.Scan.{first_is_there, second_is_there, third_decides}
use Rattle.ppc.proofs.sequences.check_epilogue_sequence.Goals as goal
use Rattle.ppc.proofs.sequences.check_epilogue_sequence.Goals.{then-is_pair, else-is_pair}

-- `ppc::sequences::check_epilogue_sequence`: its pairs are those of `rules`. Assumes nothing.
pub returns-then-is_pair-2 : goal.returns-then-is_pair-2
unfolding check_epilogue_sequence epilogue_pairs
returns-then-is_pair-2 c =
    let one = c.is_pair.ensures is_mtlr is_addi (λ w b k p. p) (λ w b k p. p) in
    rw c.in-Some.ensures.some
    (elim c.if-is_pair.branch [
      | then-is_pair w ↦ first_is_there _ _ _ _ (w.value-is ∙ one) c.if-is_pair-2.true
      | else-is_pair w ↦
          second_is_there _ _ _ _ (sym one ∙ w.if-is_pair.false) (w.value-is ∙ w.is_pair-else-is_pair.ensures is_mtlr is_or (λ w b k p. p) (λ w b k p. p)) c.if-is_pair-2.true
    ])

pub returns-else-is_pair-2 : goal.returns-else-is_pair-2
unfolding check_epilogue_sequence epilogue_pairs
returns-else-is_pair-2 c =
    let one = c.is_pair.ensures is_mtlr is_addi (λ w b k p. p) (λ w b k p. p) in
    let three = c.is_pair-else-is_pair-2.ensures is_or is_mtlr (λ w b k p. p) (λ w b k p. p) in
    rw c.in-Some.ensures.some
    (elim c.if-is_pair.branch [
      | then-is_pair w ↦ cc
      | else-is_pair w ↦
          let two = w.is_pair-else-is_pair.ensures is_mtlr is_or (λ w b k p. p) (λ w b k p. p) in
          third_decides _ _ _ _ (sym one ∙ w.if-is_pair.false) (sym two ∙ sym w.value-is ∙ c.if-is_pair-2.false) three
    ])

pub returns-in-None : goal.returns-in-None
unfolding check_epilogue_sequence epilogue_pairs
returns-in-None c = rw c.in-None.ensures.none
