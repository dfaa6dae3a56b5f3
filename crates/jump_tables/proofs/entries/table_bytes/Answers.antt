use Rattle.std.proofs.Common.{◌-◌, ◌/◌}
use Rattle.jump_tables.proofs.Chunks.{words_from}
use Rattle.jump_tables.proofs.entries.table_bytes.Goals as goal

pub returns : goal.returns
returns c = words_from _ ((c.args.a - c.args.section.base) / 4) _ (rw c.saturating_sub.ensures at c.min.ensures)
