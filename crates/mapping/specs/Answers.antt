-- What is printed of the image that a text of frames stands for.
use Rattle.std.specs.Prelude.{◌≡◌, List, ℕ, ◌<◌, ◌≤◌, ltb, length}
use Rattle.std.specs.Prelude.{Option, None, Some, Result, Ok, Err}
use Rattle.rules.specs.Choice.{if, Answer, ok, fault}
use Rattle.rules.specs.Known.{Entry}
use Rattle.rules.specs.Map.{Capacity}
use Rattle.rules.specs.Run.{run}
use Rattle.rules.specs.Lines.{text, lines}
use Rattle.obj_image.specs.Lent.{Lent, given}
use Rattle.reading.specs.PutFrame.{Room}
use Rattle.reading.specs.Texts.{read_text}
use Rattle.faults.specs.declared.Fault.{Fault}
use Rattle.faults.specs.Number.{number_of}
use Rattle.printing.specs.Rows.{Tells}
use Rattle.detection.specs.declared.MapSize.{MapSize}

-- the run of the lists that a text came to; "a line that is no frame, prints R 01 alone"
abbrev pub answer : Option Lent → Capacity → Answer (List Entry)
answer None cap = fault 1
answer (Some l) cap = run (given l) cap

-- the whole of `fmap`: what it prints of a text, where the lists have this room
unfoldable pub map_text : Room → Capacity → List ℕ → List ℕ
map_text m cap t = text (lines (answer (read_text m t) cap))

-- the room that `fmap` has: a row more than the rules allow of sections, symbols, skip ranges and entry points; 1,024 code words; the bytes
-- of all sections together
abbrev pub image_room : Room
image_room =
    record { sections = 36; bytes = 393216; outcomes = 6144; functions = 3075; objects = 3075; skips = 130; entry = 2 }

-- and for its map: as many entries as a walk may have, and their numbers
abbrev pub map_room : Capacity
map_room = record { entries = 1024; numbers = 131072 }

-- the texts that `fmap` takes are shorter than this; a longer one is refused as one with a line that is no frame is
abbrev pub text_room : ℕ
text_room = 1048576

-- what `fmap` prints of a text
unfoldable pub fmap_text : List ℕ → List ℕ
fmap_text t = if (ltb (length t) text_room) (map_text image_room map_room t) (text (lines (fault 1)))

-- ---- inside

-- an answer is there to be printed: its map in the result lists, or its fault
abbrev pub Shows : Answer (List Entry) → Result MapSize Fault → List ℕ → List ℕ → Type 0
Shows (ok es) (Ok size) rows lists = Tells size.entries rows lists es
Shows (ok es) (Err e) rows lists = ⊥
Shows (fault n) (Ok size) rows lists = ⊥
Shows (fault n) (Err e) rows lists = (number_of e ≡ n) × (n < 100)

-- some answer is
pub record Showing (r : Result MapSize Fault) (rows lists : List ℕ) : Type 0 where
  pub of_run : Answer (List Entry)
  pub shows : Shows of_run r rows lists

-- the lent slices have the room that `fmap` has, and the text of a map has its own
pub record Sized (s b o f j k e rows lists out : List ℕ) : Type 0 where
  pub size_s : length s ≡ 36
  pub size_b : length b ≡ 393216
  pub size_o : length o ≡ 6144
  pub size_f : length f ≡ 3075
  pub size_j : length j ≡ 3075
  pub size_k : length k ≡ 130
  pub size_e : length e ≡ 2
  pub size_rows : length rows ≡ 10240
  pub size_lists : length lists ≡ 131072
  pub size_out : length out ≡ 1489000
