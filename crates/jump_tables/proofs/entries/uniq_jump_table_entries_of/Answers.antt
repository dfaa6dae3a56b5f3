use Rattle.std.proofs.Common.{◌/◌, take, ap, ◌∙◌}
use Rattle.jump_tables.proofs.Tables.{not_held, held_unsized, held_sized, size_is}
use Rattle.jump_tables.proofs.Chunks.{words_cut}
use Rattle.jump_tables.proofs.entries.uniq_jump_table_entries_of.Goals as goal

pub returns-then-not-holds_tables : goal.returns-then-not-holds_tables
returns-then-not-holds_tables c = λ end e. rw c.new.ensures (not_held _ _ _ _ _ _ c.section_at-section.ensures _ c.holds_tables.ensures c.if-not-holds_tables.true)

pub returns-then-size-eq0 : goal.returns-then-size-eq0
returns-then-size-eq0 c = λ end e. held_unsized _ _ _ _ _ _ c.section_at-section.ensures _ c.holds_tables.ensures c.if-not-holds_tables.false _ (size_is _ _ _ _ (rw c.address_of-a.ensures at c.known_size.ensures) c.unwrap_or-size.ensures) _ c.if-size-eq0.true _ e _ (rw c.address_of-a.ensures at c.table_bytes-bytes.ensures) c.unsized_entries.ensures

pub returns : goal.returns
returns c = λ end e. held_sized _ _ _ _ _ _ c.section_at-section.ensures _ c.holds_tables.ensures c.if-not-holds_tables.false _ (size_is _ _ _ _ (rw c.address_of-a.ensures at c.known_size.ensures) c.unwrap_or-size.ensures) _ c.if-size-eq0.false _ (rw c.address_of-a.ensures at c.clamped-size.ensures) _ (words_cut _ _ _ c.min.ensures ∙ ap (take (c.clamped-size.result / 4)) (rw c.address_of-a.ensures at c.table_bytes-bytes.ensures)) c.sized_entries.ensures
