-- Tables by value.
use Rattle.std.specs.Prelude.{ℕ, ◌-◌, ◌*◌, ◌%◌, List, Option, Result, Ok, Err, eqb}
use Rattle.rules.specs.Choice.{if, Answer, ok, fault, ◌>>=◌}
use Rattle.rules.specs.Image.{Image}
use Rattle.rules.specs.JumpTable.{Entries}
use Rattle.faults.specs.declared.Fault.{Fault}
use Rattle.faults.specs.Number.{number_of}
use Rattle.jump_tables.specs.declared.entries.JumpTable.{JumpTable}
use Rattle.jump_tables.specs.declared.reading.Reading.{Reading}
use Rattle.jump_tables.specs.Readings.{begun, sized_words, unsized_words}

abbrev pub entries_of : JumpTable → Entries
entries_of t = record { taken = t.entries; size = t.size }

-- as an answer of the rules
abbrev pub table_of : Result JumpTable Fault → Answer Entries
table_of (Ok t) = ok (entries_of t)
table_of (Err e) = fault (number_of e)

-- what a table with a size comes to: the size is looked at last
abbrev pub sized_end : ℕ → Reading → Answer Entries
sized_end n s = if (eqb (n % 4) 0) (ok (record { taken = s.entries; size = n })) (fault 10)

unfoldable pub sized_reading : Image → ℕ → List ℕ → Answer Entries
sized_reading im n ws = sized_words im ws begun >>= sized_end n

-- and one without: what was read is its size
abbrev pub unsized_end : Reading → Answer Entries
unsized_end s = ok (record { taken = s.entries; size = 4 * (256 - s.room) })

unfoldable pub unsized_reading : Image → ℕ → Option ℕ → List ℕ → Answer Entries
unsized_reading im first past ws = unsized_words im first past ws begun >>= unsized_end
