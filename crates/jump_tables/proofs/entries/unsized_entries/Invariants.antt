use Rattle.std.proofs.Common.{◌≡◌, ◌≤◌, map, drop}
use Rattle.obj_info.specs.Info.{table_image}
use Rattle.jump_tables.specs.Readings.{number_in, begun, unsized_words}
use Rattle.jump_tables.proofs.entries.unsized_entries.Given as goal

-- the words that are left make of the reading what all make of none
abbrev pub invariant-loop-word : goal.invariant-loop-word
invariant-loop-word l = record {
  same : unsized_words (table_image l.obj) l.first l.past (map number_in l.word-items) begun ≡ unsized_words (table_image l.obj) l.first l.past (map number_in (drop l.word-index l.word-items)) l.reading;
  room : l.reading.room ≤ 256;
}
