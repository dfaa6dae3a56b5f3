-- What each kind of line may have, and the frame that it is.
use Rattle.std.specs.Prelude.{ℕ, ◌+◌, ◌≤◌, Bool, true, ◌&&◌, List, leb, eqb, length, Option, Some, None}
use Rattle.rules.specs.Choice.{if}
use Rattle.reading.specs.Frames.{number}
use Rattle.reading.specs.declared.line.Kind.{Kind}
use Rattle.reading.specs.declared.line.Kind.TheVariants.{Section, Word, CodeWord, Target, Table, Branch, Function, Object, Skip, Entry}
use Rattle.reading.specs.declared.line.Frame.{Frame}
use Rattle.reading.specs.declared.line.Frame.TheVariants.{Section as section, Word as word, CodeWord as code_word, Target as target, Table as table}
use Rattle.reading.specs.declared.line.Frame.TheVariants.{Branch as branch, Function as function, Object as object, Skip as skip, Entry as entry}

-- whether a frame of this kind may have these numbers
abbrev pub allows : Kind → ℕ → ℕ → ℕ → Bool
allows Section a b c = leb 1 a && leb a 4
allows CodeWord a b c = leb b 6 && leb c 1
allows Branch a b c = leb a 1 && leb b 2
allows Function a b c = leb c 1
allows Object a b c = leb c 1
allows Word a b c = true
allows Target a b c = true
allows Table a b c = true
allows Skip a b c = true
allows Entry a b c = true

-- the frame of these numbers, in the line's order
abbrev pub frame : Kind → ℕ → ℕ → ℕ → Frame
frame Section a b c = section a b c
frame Word a b c = word a
frame CodeWord a b c = code_word a b c
frame Target a b c = target a
frame Table a b c = table a b
frame Branch a b c = branch a b c
frame Function a b c = function a b c
frame Object a b c = object a b c
frame Skip a b c = skip a b
frame Entry a b c = entry a

-- a line as a frame of this kind, its three numbers of so many digits each; one of no digits is 0
unfoldable pub of_digits : Kind → ℕ → ℕ → ℕ → List ℕ → Option Frame
of_digits k a b c l =
    if (eqb (length l) (2 + a + b + c))
    (if (allows k (number l 2 a) (number l (2 + a) b) (number l (2 + a + b) c))
    (Some (frame k (number l 2 a) (number l (2 + a) b) (number l (2 + a + b) c)))
    None)
    None

-- the numbers of a branch are in their ranges
abbrev pub Ranged : Frame → Type 0
Ranged (section a b c) = Unit {0}
Ranged (word a) = Unit {0}
Ranged (code_word a b c) = Unit {0}
Ranged (target a) = Unit {0}
Ranged (table a b) = Unit {0}
Ranged (branch a b c) = (a ≤ 1) × (b ≤ 2)
Ranged (function a b c) = Unit {0}
Ranged (object a b c) = Unit {0}
Ranged (skip a b) = Unit {0}
Ranged (entry a) = Unit {0}
