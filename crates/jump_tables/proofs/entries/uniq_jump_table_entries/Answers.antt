use Rattle.std.proofs.Common.{◌∙◌}
use Rattle.jump_tables.proofs.Tables.{entries_by}
use Rattle.jump_tables.proofs.entries.uniq_jump_table_entries.Goals as goal

pub returns : goal.returns
returns c = λ end e. c.uniq_jump_table_entries_of.ensures end e ∙ entries_by c.args.obj.now c.tables.result c.tables.ensures c.args.target c.args.size c.args.first end
