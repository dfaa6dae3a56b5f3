-- The sections as rows.
use Rattle.std.specs.Prelude.{ℕ, ◌%◌, ◌≤◌, ◌≡◌, Bool, ◌&&◌, List, [], eqb, length, get_or}
use Rattle.rules.specs.Image as images
use Rattle.rules.specs.Given.{SectionRow, section_of_row}
use Rattle.rules.specs.Check.{all, is_kind, is_placed, code_fits, has_bytes, one_code, none_overlap, count_bytes}
use Rattle.obj_image.specs.declared.sections.Section.{Section}

-- a section by value, from the numbers of its row
abbrev pub section_by : List ℕ → Section
section_by c = record { kind = get_or c 0 0; base = get_or c 1 0; size = get_or c 2 0; given = get_or c 3 0 }

-- a section by value, as a row
abbrev pub row_of : Section → SectionRow
row_of s = record { kind = s.kind; base = s.base; size = s.size; given = s.given }

-- four numbers, as a row
abbrev pub read_row : List ℕ → SectionRow
read_row c = row_of (section_by c)

-- without its bytes
abbrev pub part_of : Section → images.Section
part_of s = section_of_row (row_of s) []

-- what is asked of each section alone
abbrev pub section_holds : SectionRow → Bool
section_holds r = is_kind r && is_placed r && code_fits r && has_bytes r

-- check 1 of sections that are neither none nor too many
abbrev pub image_holds : List SectionRow → List ℕ → Bool
image_holds rs b = one_code rs && all section_holds rs && none_overlap rs && eqb (length b) (count_bytes rs)

-- at most 8 whole rows
pub record Few (s : List ℕ) : Type 0 where
  pub whole : length s % 4 ≡ 0
  pub few : length s ≤ 32
