-- Frames put one after the other, with the lists that they come to: computed.
use mathlib.Core.Path.{◌≡◌, refl}
use mathlib.Core.List.{List, [], ◌∷◌}
use Rattle.std.specs.Prelude.{Option, None, Some}
use Prim.Native.Nat.{ℕ}
use Rattle.rules.specs.Choice.{if}
use Rattle.rules.specs.Text.{bytes}
use Rattle.obj_image.specs.Lent.{Lent, lent}
use Rattle.reading.specs.Frames.{number, tagged, read_frame}
use Rattle.reading.specs.Rows.{add_row}
use Rattle.reading.specs.LastRows.{back, set_back, last_kind, add_word, last_is}
use Rattle.reading.specs.PutFrame.{onward, put_frame, put_line}

-- one line more, if all before were frames
abbrev put_next : List ℕ → Option Lent → Option Lent
put_next x None = None
put_next x (Some l) =
    put_line record { sections = 36; bytes = 4096; outcomes = 6144; functions = 3075; objects = 3075; skips = 130; entry = 2 } (read_frame x) l

-- the lines of a text, one after the other
abbrev put_lines : List (List ℕ) → Option Lent → Option Lent
put_lines [] l = l
put_lines (x ∷ xs) l = put_lines xs (put_next x l)

abbrev empty : Lent
empty = lent [] [] [] [] [] [] []

-- three branches of one word, a target that is missing, two entry points
lists_read :
    put_lines
    (bytes "01010000100000000008" ∷
    bytes "02480000080601" ∷
    bytes "05000000001000" ∷
    bytes "05010100001004" ∷
    bytes "05000200000000" ∷
    bytes "024800000C0400" ∷
    bytes "01020000200000000004" ∷
    bytes "0200001000" ∷
    bytes "06000010000000000801" ∷
    bytes "080000100000001004" ∷
    bytes "0900001000" ∷
    bytes "0900001004" ∷
    bytes "0900001000" ∷ [])
    (Some empty)
    ≡ Some
    (lent
    (1 ∷ 0x1000 ∷ 8 ∷ 8 ∷ 2 ∷ 0x2000 ∷ 4 ∷ 4 ∷ [])
    (0x48 ∷ 0 ∷ 0 ∷ 8 ∷ 0x48 ∷ 0 ∷ 0 ∷ 12 ∷ 0 ∷ 0 ∷ 0x10 ∷ 0 ∷ [])
    (6 ∷ 1 ∷ 1 ∷ 0x1000 ∷ 4 ∷ 0x1004 ∷ 4 ∷ 0 ∷ 0 ∷ 0 ∷ 0 ∷ 0 ∷ [])
    (0x1000 ∷ 8 ∷ 1 ∷ [])
    []
    (0x1000 ∷ 0x1004 ∷ [])
    (0x1000 ∷ 0x1004 ∷ []))
unfolding if number tagged read_frame add_row back set_back last_kind add_word last_is onward put_frame put_line
lists_read = refl

-- a word before any section, a data word in code, a code word in data, a target without its word, and one of another outcome
nothing_read :
    (put_lines (bytes "0200001000" ∷ []) (Some empty) ≡ None) ×
    (put_lines (bytes "01010000100000000008" ∷ bytes "0200001000" ∷ []) (Some empty) ≡ None) ×
    (put_lines (bytes "01020000100000000008" ∷ bytes "02000010000300" ∷ []) (Some empty) ≡ None) ×
    (put_lines (bytes "01010000100000000008" ∷ bytes "0300001000" ∷ []) (Some empty) ≡ None) ×
    (put_lines (bytes "01010000100000000008" ∷ bytes "02480000080600" ∷ bytes "0300001000" ∷ []) (Some empty) ≡ None)
unfolding if number tagged read_frame add_row back set_back last_kind add_word last_is onward put_frame put_line
nothing_read = (refl, refl, refl, refl, refl)
