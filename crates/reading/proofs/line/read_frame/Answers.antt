use Rattle.std.proofs.Common.{sym, ◌∙◌}
use Rattle.reading.proofs.Cases.{line_is, line_not, line_short}
use Rattle.reading.proofs.line.read_frame.Goals.{then-line-lt2-via-then-line-lt2, then-line-lt2-via-else-line-lt2+then-not-are_digits}
use Rattle.reading.proofs.line.read_frame.Goals as goal

pub returns-then-line-lt2 : goal.returns-then-line-lt2
returns-then-line-lt2 c =
    elim c.then-line-lt2.branch [
      | then-line-lt2-via-then-line-lt2 w ↦ line_short _ w.if-line-lt2.true
      | then-line-lt2-via-else-line-lt2+then-not-are_digits w ↦ line_not _ w.if-line-lt2.false (sym w.if-not-are_digits.true ∙ w.are_digits.ensures)
    ]

pub returns : goal.returns
returns c = line_is c.args.line.now _ c.hex.result c.if-line-lt2.false (sym c.if-not-are_digits.false ∙ c.are_digits.ensures) c.hex.ensures c.tagged.ensures
