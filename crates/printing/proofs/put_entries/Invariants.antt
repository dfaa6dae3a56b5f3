use Rattle.std.proofs.Common.{drop}
use Rattle.rules.specs.Lines.{text, lines_map}
use Rattle.printing.specs.Rows.{entries_in}
use Rattle.printing.proofs.Maps.{Left}
use Rattle.printing.proofs.put_entries.Given as goal

abbrev pub invariant-loop-row : goal.invariant-loop-row
invariant-loop-row l = Left (drop l.row-index l.rows) l.numbers (text (lines_map (entries_in l.rows l.initial.numbers))) l.initial.text l.text
