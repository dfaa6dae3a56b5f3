-- The lent lists that stand for an image, and what is handed in by them (`Given` of rules). One table:
--
--   list       numbers of a row
--   sections   kind, base, size, how many bytes of it are lent
--   bytes      (no rows) the bytes of all sections that have any, in the sections' order
--   outcomes   one row for each code word: kind, mark, and four more by kind:
--              jump: target, 0, 0, 0; jump table: address, size, 0, 0; list: way, address, way, address, with 0, 0 for no branch; else 0
--   functions  address, size, whether the size is known
--   objects    the same
--   skips      first address, first address past it
--   entry      address: no row, or one
--
-- A way is 1 to an address, 2 to a table, 3 elsewhere, and 4 more with link. A row that is not whole breaks the rules of its list.
use Rattle.std.specs.Prelude.{ℕ, zero, suc, ◌+◌, ◌-◌, ◌/◌, ◌%◌, ◌&&◌, List, [], ◌∷◌, ◌++◌, leb, eqb, length, take, drop, get_or}
use Rattle.rules.specs.Choice.{if}
use Rattle.rules.specs.Image.{Image, Range}
use Rattle.rules.specs.Given.{SectionRow, BranchRow, OutcomeRow, SymbolRow, Given, image_of}

pub record Lent : Type 0 where
  pub sections : List ℕ
  pub bytes : List ℕ
  pub outcomes : List ℕ
  pub functions : List ℕ
  pub objects : List ℕ
  pub skips : List ℕ
  pub entry : List ℕ

-- the lists together
abbrev pub lent : List ℕ → List ℕ → List ℕ → List ℕ → List ℕ → List ℕ → List ℕ → Lent
lent s b o f j k e =
    record { sections = s; bytes = b; outcomes = o; functions = f; objects = j; skips = k; entry = e }

-- n rows of w numbers each
abbrev pub rows_from : {A : Type 0} → ℕ → (List ℕ → A) → ℕ → List ℕ → List A
rows_from w row zero l = []
rows_from w row (suc n) l = row (take w l) ∷ rows_from w row n (drop w l)

-- all rows of a list; the last may not be whole
unfoldable pub rows : {A : Type 0} → ℕ → (List ℕ → A) → List ℕ → List A
rows w row l = rows_from w row ((length l + (w - 1)) / w) l

-- a section; one that is not whole has no kind
abbrev pub section_row : List ℕ → SectionRow
section_row c = record { kind = if (eqb (length c) 4) (get_or c 0 0) 0; base = get_or c 1 0; size = get_or c 2 0; given = get_or c 3 0 }

-- a branch, where there is one; one that goes nowhere breaks the rules
abbrev pub to_number : ℕ → ℕ
to_number way = if (eqb (way % 4) 0) 3 (way % 4 - 1)

abbrev pub branch_row : ℕ → ℕ → List BranchRow
branch_row way a = if (eqb way 0 && eqb a 0) [] (record { link = way / 4; to = to_number way; address = a } ∷ [])

-- an outcome; one that is not whole has no kind
abbrev pub outcome_row : List ℕ → OutcomeRow
outcome_row c =
    if (leb 6 (get_or c 0 0))
    (record { kind = if (eqb (length c) 6) (get_or c 0 0) 7; mark = get_or c 1 0; address = 0; size = 0; branches = branch_row (get_or c 2 0) (get_or c 3 0) ++ branch_row (get_or c 4 0) (get_or c 5 0) })
    (record { kind = if (eqb (length c) 6) (get_or c 0 0) 7; mark = get_or c 1 0; address = get_or c 2 0; size = get_or c 3 0; branches = branch_row (get_or c 4 0) (get_or c 5 0) })

-- a symbol; one that is not whole is not aligned
abbrev pub symbol_row : List ℕ → SymbolRow
symbol_row c = record { address = if (eqb (length c) 3) (get_or c 0 0) 1; size = get_or c 1 0; known = get_or c 2 0 }

-- a skip range; one that is not whole is not aligned
abbrev pub skip_row : List ℕ → Range
skip_row c = record { first = if (eqb (length c) 2) (get_or c 0 0) 1; past = get_or c 1 0 }

unfoldable pub given : Lent → Given
given l =
    record {
      sections = rows 4 section_row l.sections;
      bytes = l.bytes;
      outcomes = rows 6 outcome_row l.outcomes;
      functions = rows 3 symbol_row l.functions;
      objects = rows 3 symbol_row l.objects;
      skips = rows 2 skip_row l.skips;
      entries = l.entry;
    }

-- the image that the lists stand for
abbrev pub image : Lent → Image
image l = image_of (given l)

-- where the sections alone are lent
abbrev pub seen : List ℕ → Image
seen s = image (lent s [] [] [] [] [] [])
