-- The sections as rows, passed on, and what the lookups in them come to.
use Rattle.std.specs.Prelude.{ℕ, zero, suc, ◌+◌, ◌%◌, ◌≤◌, ◌≡◌, true, List, [], ◌∷◌, length, take, drop}
use Rattle.rules.specs.Bytes.{words_in}
use Rattle.rules.specs.Image.{code_number, code_section, section_at}
use Rattle.rules.specs.Given.{SectionRow, kind_of}
use Rattle.rules.specs.Check.{check_image}
use Rattle.obj_image.specs.Lent.{Lent, given, image}
use Rattle.obj.specs.declared.sections.Code.{Code}
use Rattle.obj.specs.declared.sections.Part.{Part}
pub use Rattle.obj_image.specs.Sections.{section_by, row_of, read_row, part_of, section_holds, Few}

-- the code section of the image; where the image passes check 1, with its bytes
pub record IsCode (l : Lent) (c : Code) : Type 0 where
  pub number : c.number ≡ code_number (image l)
  pub base : c.base ≡ (code_section (image l)).base
  pub size : c.size ≡ (code_section (image l)).size
  pub words : check_image (given l) ≡ true → words_in (take c.size (drop c.offset l.bytes)) ≡ (code_section (image l)).words
  pub inside : check_image (given l) ≡ true → c.offset + c.size ≤ length l.bytes

-- the section i of these, whose bytes begin at an offset; an empty one of bss past the last
abbrev pub part_in : ℕ → ℕ → List SectionRow → Part
part_in i at [] = record { kind = 4; base = 0; size = 0; offset = at }
part_in zero at (r ∷ rs) = record { kind = r.kind; base = r.base; size = r.size; offset = at }
part_in (suc i) at (r ∷ rs) = part_in i (at + r.given) rs

-- the section that an address is of; where the image passes check 1 and the section is no bss, with its bytes
pub record IsPart (l : Lent) (k : ℕ) (p : Part) : Type 0 where
  pub kind : kind_of p.kind ≡ (section_at (image l) k).kind
  pub base : p.base ≡ (section_at (image l) k).base
  pub size : p.size ≡ (section_at (image l) k).size
  pub words : check_image (given l) ≡ true → (p.kind ≡ 4 → ⊥) → words_in (take p.size (drop p.offset l.bytes)) ≡ (section_at (image l) k).words
  pub inside : check_image (given l) ≡ true → (p.kind ≡ 4 → ⊥) → p.offset + p.size ≤ length l.bytes

-- the code section is whole words, and its bytes are lent
pub record InBytes (b : List ℕ) (c : Code) : Type 0 where
  pub words : c.size % 4 ≡ 0
  pub bytes : c.offset + c.size ≤ length b
