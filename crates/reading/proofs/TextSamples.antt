-- Texts, with the lists that they come to: computed.
use mathlib.Core.Path.{◌≡◌, refl}
use mathlib.Core.List.{[], ◌∷◌}
use Rattle.std.specs.Prelude.{None, Some}
use Rattle.rules.specs.Choice.{if}
use Rattle.rules.specs.Text.{bytes}
use Rattle.obj_image.specs.Lent.{lent}
use Rattle.reading.specs.Frames.{number, tagged, read_frame}
use Rattle.reading.specs.Rows.{add_row}
use Rattle.reading.specs.LastRows.{back, set_back, last_kind, add_word, last_is}
use Rattle.reading.specs.PutFrame.{Room, onward, put_frame, put_line}
use Rattle.reading.specs.Texts.{lines_of, read_text}

abbrev some_room : Room
some_room = record { sections = 36; bytes = 4096; outcomes = 6144; functions = 3075; objects = 3075; skips = 130; entry = 2 }

-- document 01's run, whole
sample_read :
    read_text some_room (bytes "01010000100000000008\n024E8000200300\n024E8000200300\n")
    ≡ Some
    (lent
    (1 ∷ 0x1000 ∷ 8 ∷ 8 ∷ [])
    (0x4E ∷ 0x80 ∷ 0 ∷ 0x20 ∷ 0x4E ∷ 0x80 ∷ 0 ∷ 0x20 ∷ [])
    (3 ∷ 0 ∷ 0 ∷ 0 ∷ 0 ∷ 0 ∷ 3 ∷ 0 ∷ 0 ∷ 0 ∷ 0 ∷ 0 ∷ [])
    []
    []
    []
    [])
unfolding if number tagged read_frame add_row back set_back last_kind add_word last_is onward put_frame put_line read_text
sample_read = refl

-- the last line needs no newline; an empty line is one, and no frame; an empty text has none
cut :
    (lines_of (bytes "a\nbc") ≡ bytes "a" ∷ bytes "bc" ∷ []) ×
    (lines_of (bytes "a\nbc\n") ≡ bytes "a" ∷ bytes "bc" ∷ []) ×
    (lines_of (bytes "\na\n\n") ≡ [] ∷ bytes "a" ∷ [] ∷ []) ×
    (lines_of [] ≡ [])
unfolding if
cut = (refl, refl, refl, refl)

-- nothing where a line is empty or no frame; empty lists from an empty text
refused :
    (read_text some_room (bytes "01010000100000000008\n\n") ≡ None) ×
    (read_text some_room (bytes "01010000100000000008\nR\n024E8000200300") ≡ None) ×
    (read_text some_room [] ≡ Some (lent [] [] [] [] [] [] []))
unfolding if number tagged read_frame add_row back set_back last_kind add_word last_is onward put_frame put_line read_text
refused = (refl, refl, refl)
