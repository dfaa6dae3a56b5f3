-- What is handed in, as numbers, and the image that it stands for (docs/RULES.md). Nothing is checked here.
use Rattle.std.specs.Prelude.{ℕ, List, [], ◌∷◌, map, eqb, take, drop}
use Rattle.rules.specs.Choice.{if}
use Rattle.rules.specs.Address.{key}
use Rattle.rules.specs.Bytes.{words_in}
use Rattle.rules.specs.Image.{Kind, code, written, read_only, bss, Section, To, to_address, to_table, elsewhere, Branch, Outcome, go_on, illegal, unknown, return, jump, jump_table, branches, Told, Symbol, Range, Image, code_from}

-- a section
pub record SectionRow : Type 0 where
  -- 1 code, 2 data, 3 read-only, 4 bss
  pub kind : ℕ
  pub base : ℕ
  pub size : ℕ
  -- how many bytes of it are handed in
  pub given : ℕ

-- a branch of a list
pub record BranchRow : Type 0 where
  -- 0 or 1
  pub link : ℕ
  -- 0 an address, 1 a table, 2 elsewhere
  pub to : ℕ
  pub address : ℕ

-- what a code word does
pub record OutcomeRow : Type 0 where
  -- 0 go on, 1 illegal, 2 unknown jump, 3 return, 4 jump, 5 jump table, 6 list of branches
  pub kind : ℕ
  -- 1 if the link register holds 0x43300000, else 0
  pub mark : ℕ
  -- of a jump or a table
  pub address : ℕ
  -- of a table
  pub size : ℕ
  pub branches : List BranchRow

-- a function or object symbol
pub record SymbolRow : Type 0 where
  pub address : ℕ
  pub size : ℕ
  -- 1 if the size is known, else 0
  pub known : ℕ

-- all that is handed in
pub record Given : Type 0 where
  pub sections : List SectionRow
  -- of all sections, in order
  pub bytes : List ℕ
  -- of the code section's words, in order
  pub outcomes : List OutcomeRow
  pub functions : List SymbolRow
  pub objects : List SymbolRow
  pub skips : List Range
  -- none, or one
  pub entries : List ℕ

-- ---- the image

-- a section's kind by its number
abbrev pub kind_of : ℕ → Kind
kind_of k = if (eqb k 1) code (if (eqb k 2) written (if (eqb k 3) read_only bss))

-- a section with its bytes, as words
abbrev pub section_of_row : SectionRow → List ℕ → Section
section_of_row r l = record { kind = kind_of r.kind; base = r.base; size = r.size; words = words_in l }

-- each section with its part of the bytes
abbrev pub sections_of : List SectionRow → List ℕ → List Section
sections_of [] l = []
sections_of (r ∷ rs) l = section_of_row r (take r.given l) ∷ sections_of rs (drop r.given l)

-- where a branch goes, by number
abbrev pub to_of : ℕ → ℕ → To
to_of t a = if (eqb t 0) (to_address a) (if (eqb t 1) (to_table a) elsewhere)

-- a branch
abbrev pub branch_of : BranchRow → Branch
branch_of r = record { link = eqb r.link 1; to = to_of r.to r.address }

-- an outcome by its number, in document 01's order
abbrev pub outcome_of : OutcomeRow → Outcome
outcome_of r =
    if (eqb r.kind 0) go_on
    (if (eqb r.kind 1) illegal
    (if (eqb r.kind 2) unknown
    (if (eqb r.kind 3) return
    (if (eqb r.kind 4) (jump r.address)
    (if (eqb r.kind 5) (jump_table r.address r.size) (branches (map branch_of r.branches)))))))

-- an outcome with its mark
abbrev pub told_of : OutcomeRow → Told
told_of r = record { outcome = outcome_of r; mark = eqb r.mark 1 }

-- a symbol
abbrev pub symbol_of : SymbolRow → Symbol
symbol_of r = record { address = r.address; size = r.size; known = eqb r.known 1 }

-- the entry point with the code section's number; 0 for none
abbrev pub entry_of : ℕ → List ℕ → ℕ
entry_of n [] = 0
entry_of n (a ∷ l) = key n a

-- the image that it stands for
unfoldable pub image_of : Given → Image
image_of g =
    record {
      sections = sections_of g.sections g.bytes;
      told = map told_of g.outcomes;
      functions = map symbol_of g.functions;
      objects = map symbol_of g.objects;
      skips = g.skips;
      entry = entry_of (code_from 1 (sections_of g.sections g.bytes)) g.entries;
    }
