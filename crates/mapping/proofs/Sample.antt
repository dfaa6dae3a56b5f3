-- "One run, whole": document 01's three lines, as a text, are printed as its five.
use mathlib.Core.Path.{◌≡◌, refl}
use mathlib.Core.List.{List, [], ◌∷◌}
use Prim.Native.Nat.{ℕ}
use Rattle.rules.specs.Choice.{if}
use Rattle.rules.specs.Text.{bytes}
use Rattle.rules.specs.Lines.{text}
use Rattle.rules.proofs.Whole.{whole}
use Rattle.obj_image.specs.Lent.{rows, given}
use Rattle.reading.specs.Frames.{number, tagged, read_frame}
use Rattle.reading.specs.LastRows.{back, set_back, last_kind, add_word, last_is}
use Rattle.reading.specs.Rows.{add_row}
use Rattle.reading.specs.PutFrame.{onward, put_frame, put_line}
use Rattle.reading.specs.Texts.{read_text}
use Rattle.mapping.specs.Answers.{map_text, image_room, map_room, fmap_text}

abbrev three : List ℕ
three = text (bytes "01010000100000000008" ∷ bytes "024E8000200300" ∷ bytes "024E8000200300" ∷ [])

abbrev five : List ℕ
five =
    text
    (bytes "R 00" ∷
    bytes "F 00001000 00001004 - - 000" ∷
    bytes "B 00001000 00001004" ∷
    bytes "F 00001004 00001008 - - 000" ∷
    bytes "B 00001004 00001008" ∷ [])

-- with the room that `fmap` has
pub sample_map_text : map_text image_room map_room three ≡ five
unfolding map_text read_text put_line put_frame onward add_row add_word last_kind last_is back set_back number tagged read_frame rows given if whole
sample_map_text = refl

-- and so this is what it prints
pub sample_text : fmap_text three ≡ five
unfolding fmap_text if
sample_text = sample_map_text
