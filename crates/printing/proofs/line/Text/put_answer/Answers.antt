use Rattle.rules.specs.Lines.{line_R}
use Rattle.printing.proofs.line.Text.put_answer.Goals as goal

pub put-requires : goal.put-requires
unfolding line_R
put-requires c = record { fits = c.requires.room.fits }

pub returns : goal.returns
unfolding line_R
returns c = c.put.ensures
