use Rattle.std.proofs.Common.{ap, ◌∙◌}
use Rattle.rules.specs.JumpTable.{jump_table_entries}
use Rattle.obj_image.specs.Lent.{Lent, image}
use Rattle.jump_tables.proofs.Tables.{entries_same}
use Rattle.jump_tables.proofs.entries.uniq_jump_table_entries_in.Goals as goal

pub returns : goal.returns
returns c = λ l end s b o e.
    c.uniq_jump_table_entries_of.ensures end e
    ∙ ap (λ (m : Lent). jump_table_entries (image m) c.args.target c.args.size c.args.first end) (rw (s, b, o) c.new-tables.ensures)
    ∙ entries_same l c.args.target c.args.size c.args.first end
