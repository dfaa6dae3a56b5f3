use Rattle.printing.proofs.Printing.{printed_then}
use Rattle.printing.proofs.line.Text.put_line.Goals as goal

pub returns : goal.returns
returns c = printed_then (printed_then (rw c.letter.ensures at c.put_tagged.ensures) c.put_second.ensures) c.put.ensures
