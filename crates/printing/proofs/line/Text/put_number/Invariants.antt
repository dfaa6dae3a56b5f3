use Rattle.printing.proofs.Digits.{Behind}
use Rattle.printing.proofs.line.Text.put_number.Given as goal

abbrev pub invariant-loop-place : goal.invariant-loop-place
invariant-loop-place l = Behind l.x l.place l.left l.row
