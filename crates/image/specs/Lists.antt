-- An image as one lent list of numbers, which begins with a header, and its bytes. One table:
--
--   at       number
--   0        kind of image: 0 executable
--   1        reading: 0
--   2, 3     where the sections begin in the list, and how many rows there are
--   4, 5     the outcomes
--   6, 7     the functions
--   8, 9     the objects
--   10, 11   the skip ranges
--   12, 13   the entry point
--   14, 15   the relocations, of which there are none yet
--
-- Rows are those of obj_image (Lent). Lists may lie anywhere inside, in any order, with anything between them. In the code the places are
-- constants of the same names.
use Rattle.std.specs.Prelude.{ℕ, ◌+◌, ◌*◌, Bool, ◌&&◌, List, [], leb, eqb, length, take, drop, get_or}
use Rattle.rules.specs.Choice.{if}
use Rattle.rules.specs.Image as images
use Rattle.rules.specs.Check as rules
use Rattle.obj.specs.Lent.{Lent, lent, given, image}

abbrev pub KIND : ℕ
KIND = 0

abbrev pub READING : ℕ
READING = 1

abbrev pub SECTIONS : ℕ
SECTIONS = 2

abbrev pub OUTCOMES : ℕ
OUTCOMES = 4

abbrev pub FUNCTIONS : ℕ
FUNCTIONS = 6

abbrev pub OBJECTS : ℕ
OBJECTS = 8

abbrev pub SKIPS : ℕ
SKIPS = 10

abbrev pub ENTRY : ℕ
ENTRY = 12

abbrev pub RELOCATIONS : ℕ
RELOCATIONS = 14

abbrev pub HEADER : ℕ
HEADER = 16

-- a number of the header; 0 where the header is not whole
unfoldable pub head : List ℕ → ℕ → ℕ
head i h = if (leb HEADER (length i)) (get_or i h 0) 0

-- the list of rows of w numbers whose place and count stand at h lies inside
abbrev pub inside : List ℕ → ℕ → ℕ → Bool
inside i h w = leb (head i h + head i (h + 1) * w) (length i)

-- that list. One that does not lie inside is five numbers, which break the rule of every list: they are no rows of 6, 4, 3 or 2 numbers, and
-- more than one entry point
unfoldable pub part : List ℕ → ℕ → ℕ → List ℕ
part i h w = if (inside i h w) (take (head i (h + 1) * w) (drop (head i h) i)) (take 5 i)

-- a kind of image that there is not has no sections, nor has an image with relocations
unfoldable pub sections_of : List ℕ → List ℕ
sections_of i = if (eqb (head i KIND) 0 && eqb (head i (RELOCATIONS + 1)) 0) (part i SECTIONS 4) []

abbrev pub outcomes_of : List ℕ → List ℕ
outcomes_of i = part i OUTCOMES 6

abbrev pub functions_of : List ℕ → List ℕ
functions_of i = part i FUNCTIONS 3

abbrev pub objects_of : List ℕ → List ℕ
objects_of i = part i OBJECTS 3

abbrev pub skips_of : List ℕ → List ℕ
skips_of i = part i SKIPS 2

-- a reading that there is not breaks the rule of the entry point
unfoldable pub entry_of : List ℕ → List ℕ
entry_of i = if (eqb (head i READING) 0) (part i ENTRY 1) (take 5 i)

-- the lists that the one list stands for
abbrev pub lent_of : List ℕ → List ℕ → Lent
lent_of i b = lent (sections_of i) b (outcomes_of i) (functions_of i) (objects_of i) (skips_of i) (entry_of i)

-- the image
abbrev pub image_at : List ℕ → List ℕ → images.Image
image_at i b = image (lent_of i b)

-- ---- the number that the checks give, said outright; `stated_is` (proofs/Numbers.antt) proves that it is the check of these lists

-- for check 1 the header is whole, the kind is 0, there are no relocations, and the sections lie inside
abbrev pub first_there : List ℕ → Bool
first_there i =
    leb HEADER (length i) && eqb (head i KIND) 0 && eqb (head i (RELOCATIONS + 1)) 0 && inside i SECTIONS 4

-- for check 2 the outcomes lie inside
abbrev pub second_there : List ℕ → Bool
second_there i = inside i OUTCOMES 6

-- for check 3 the reading is 0, and the other lists lie inside
abbrev pub third_there : List ℕ → Bool
third_there i =
    eqb (head i READING) 0 && inside i FUNCTIONS 3 && inside i OBJECTS 3 && inside i SKIPS 2 && inside i ENTRY 1

abbrev pub stated : List ℕ → List ℕ → ℕ
stated i b =
    if (first_there i && rules.check_image (given (lent_of i b)))
    (if (second_there i && rules.check_outcomes (image_at i b) (given (lent_of i b)))
    (if (third_there i && rules.check_rest (image_at i b) (given (lent_of i b))) 0 3)
    2)
    1
