-- One run, whole: what is handed in is checked, then walked to its map.
use Rattle.std.specs.Prelude.{ℕ, List, eqb}
use Rattle.rules.specs.Choice.{if, Answer, ok, fault}
use Rattle.rules.specs.Given.{Given, image_of}
use Rattle.rules.specs.Check.{check}
use Rattle.rules.specs.Known.{Entry}
use Rattle.rules.specs.Map.{Capacity, detect}

-- 1 to 3 where a check fails, before anything is walked; else the map, or the fault that the walk met
unfoldable pub run : Given → Capacity → Answer (List Entry)
run g cap = if (eqb (check g) 0) (detect (image_of g) cap) (fault (check g))

-- the number of an answer
abbrev pub number_of : Answer (List Entry) → ℕ
number_of (ok es) = 0
number_of (fault n) = n
