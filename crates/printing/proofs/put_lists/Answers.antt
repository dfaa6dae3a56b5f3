use Rattle.printing.proofs.Printing.{printed_then}
use Rattle.printing.proofs.put_lists.Goals as goal

pub returns : goal.returns
returns c = printed_then (printed_then (printed_then c.put_lines.ensures c.put_lines-2.ensures) c.put_lines-3.ensures) c.put_lines-4.ensures
