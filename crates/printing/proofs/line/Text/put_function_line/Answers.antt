use Rattle.printing.proofs.Printing.{printed_then}
use Rattle.printing.proofs.line.Text.put_function_line.Goals as goal

pub returns : goal.returns
returns c =
    printed_then (printed_then (printed_then (printed_then c.put_tagged.ensures c.put_address.ensures) c.put_address_or_dash.ensures) c.put_address_or_dash-2.ensures)
    (rw (c.has_conditional_blr.ensures, c.has_rfi.ensures, c.has_r1_load.ensures) at c.put_flags.ensures)
