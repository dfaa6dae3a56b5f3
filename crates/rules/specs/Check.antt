-- Checks 1 to 3: document 01, "The image", one test for each sentence there, in its order. (docs/RULES.md has document 01's rules.)
use Rattle.std.specs.Prelude.{ℕ, suc, ◌+◌, Bool, true, ◌&&◌, ◌||◌, not, List, [], ◌∷◌, ltb, leb, eqb, length}
use Rattle.rules.specs.Choice.{if, any}
use Rattle.rules.specs.Address.{section_of}
use Rattle.rules.specs.Image
use Rattle.rules.specs.Image.{Image, Range}
use Rattle.rules.specs.Blocks.{is_aligned}
use Rattle.rules.specs.Given.{SectionRow, BranchRow, OutcomeRow, SymbolRow, Given, image_of}

-- whether a test holds of each
abbrev pub all : {A : Type 0} → (A → Bool) → List A → Bool
all p [] = true
all p (x ∷ l) = p x && all p l

-- whether a test holds of each and the next
abbrev pub chained : {A : Type 0} → (A → A → Bool) → List A → Bool
chained p [] = true
chained p (x ∷ []) = true
chained p (x ∷ y ∷ l) = p x y && chained p (y ∷ l)

-- ---- 1: the sections

-- a section of code
abbrev pub is_code_row : SectionRow → Bool
is_code_row r = eqb r.kind 1

-- how many sections are of code
abbrev pub count_codes : List SectionRow → ℕ
count_codes [] = 0
count_codes (r ∷ l) = if (is_code_row r) (suc (count_codes l)) (count_codes l)

-- "1 to 8 sections"
abbrev pub few_sections : List SectionRow → Bool
few_sections l = leb 1 (length l) && leb (length l) 8

-- "exactly one of code"
abbrev pub one_code : List SectionRow → Bool
one_code l = eqb (count_codes l) 1

-- the kinds that there are
abbrev pub is_kind : SectionRow → Bool
is_kind r = leb 1 r.kind && leb r.kind 4

-- "Base and size are multiples of 4, base at least 256, size at least 4, base + size at most 0xF0000000"
abbrev pub is_placed : SectionRow → Bool
is_placed r =
    is_aligned r.base && is_aligned r.size && leb 256 r.base && leb 4 r.size && leb (r.base + r.size) 0xF000_0000

-- "no two overlapping"
abbrev pub are_apart : SectionRow → SectionRow → Bool
are_apart r s = leb (r.base + r.size) s.base || leb (s.base + s.size) r.base

-- the same of each and all later ones
abbrev pub none_overlap : List SectionRow → Bool
none_overlap [] = true
none_overlap (r ∷ l) = all (are_apart r) l && none_overlap l

-- "Code is at most 262,144 bytes"
abbrev pub code_fits : SectionRow → Bool
code_fits r = not (is_code_row r) || leb r.size 262144

-- "Bss has no bytes; every other section has all of its bytes"
abbrev pub has_bytes : SectionRow → Bool
has_bytes r = eqb r.given (if (eqb r.kind 4) 0 r.size)

-- and no byte is handed in besides
abbrev pub count_bytes : List SectionRow → ℕ
count_bytes [] = 0
count_bytes (r ∷ l) = r.given + count_bytes l

-- the bytes are those of the sections
abbrev pub bytes_add_up : Given → Bool
bytes_add_up g = eqb (length g.bytes) (count_bytes g.sections)

-- number 1: "the image breaks a rule"
unfoldable pub check_image : Given → Bool
check_image g =
    few_sections g.sections && one_code g.sections && all is_kind g.sections && all is_placed g.sections &&
    none_overlap g.sections && all code_fits g.sections && all has_bytes g.sections && bytes_add_up g

-- ---- 2: the outcomes

module _ (im : Image) where
  -- "Given addresses are multiples of 4 inside a section"
  abbrev pub is_inside : ℕ → Bool
  is_inside a = is_aligned a && any (λ s. Image.contains s a) im.sections

  -- "each with link or not, to an address, a table or elsewhere"; elsewhere is no address
  abbrev pub is_branch_row : BranchRow → Bool
  is_branch_row b = leb b.link 1 && leb b.to 2 && if (eqb b.to 2) (eqb b.address 0) (is_inside b.address)

  -- what a row has beside its kind and mark: a target, a table with "a size [of] at most 65,536", "a list of 0 to 2 branches", or nothing
  abbrev pub fits_kind : OutcomeRow → Bool
  fits_kind r =
      if (eqb r.kind 4) (is_inside r.address && eqb r.size 0 && eqb (length r.branches) 0)
      (if (eqb r.kind 5) (is_inside r.address && leb r.size 65536 && eqb (length r.branches) 0)
      (eqb r.address 0 && eqb r.size 0 &&
      if (eqb r.kind 6) (leb (length r.branches) 2 && all is_branch_row r.branches) (eqb (length r.branches) 0)))

  -- one outcome
  abbrev pub is_outcome : OutcomeRow → Bool
  is_outcome r = leb r.kind 6 && leb r.mark 1 && fits_kind r

  -- "Per code word one outcome"
  unfoldable pub check_outcomes : Given → Bool
  check_outcomes g = eqb (length g.outcomes) (Image.code_words im) && all is_outcome g.outcomes

  -- ---- 3: symbols, skip ranges, the entry point

  -- "Sizes are at most 262,144"; "A mark says if the size is known"
  abbrev pub is_symbol : SymbolRow → Bool
  is_symbol f = is_aligned f.address && leb f.size 262144 && leb f.known 1

  -- "Function symbols lie in code", their sizes "multiples of 4"
  abbrev pub is_function_symbol : SymbolRow → Bool
  is_function_symbol f = is_symbol f && Image.contains (Image.code_section im) f.address && is_aligned f.size

  -- "object symbols inside another section"
  abbrev pub is_object_symbol : SymbolRow → Bool
  is_object_symbol f =
      is_symbol f && not (eqb (Image.locate im f.address) 0) &&
      not (eqb (section_of (Image.locate im f.address)) (Image.code_number im))

  -- "addresses ascend strictly", in their order, section first
  abbrev pub is_below : SymbolRow → SymbolRow → Bool
  is_below f h = ltb (Image.locate im f.address) (Image.locate im h.address)

  -- "at most 1,024 of each"
  abbrev pub are_symbols : (SymbolRow → Bool) → List SymbolRow → Bool
  are_symbols p l = leb (length l) 1024 && all p l && chained is_below l

  -- "Skip ranges [..] are nonempty, aligned, inside code"
  abbrev pub is_skip : Range → Bool
  is_skip r =
      is_aligned r.first && is_aligned r.past && ltb r.first r.past && leb (Image.code_section im).base r.first &&
      leb r.past ((Image.code_section im).base + (Image.code_section im).size)

  -- "ascending and may touch but not overlap"
  abbrev pub comes_before : Range → Range → Bool
  comes_before r s = leb r.past s.first

  -- "at most 64"
  abbrev pub are_skips : List Range → Bool
  are_skips l = leb (length l) 64 && all is_skip l && chained comes_before l

  -- "The entry point, if given, is an aligned code address"
  abbrev pub is_entry : ℕ → Bool
  is_entry a = is_aligned a && Image.contains (Image.code_section im) a

  -- at most one
  abbrev pub are_entries : List ℕ → Bool
  are_entries l = leb (length l) 1 && all is_entry l

  -- number 3: "a symbol, skip range, entry or lent list breaks a rule"
  unfoldable pub check_rest : Given → Bool
  check_rest g =
      are_symbols is_function_symbol g.functions && are_symbols is_object_symbol g.objects && are_skips g.skips &&
      are_entries g.entries

-- 1, 2, 3 by the first check that fails; 0 where none does
unfoldable pub check : Given → ℕ
check g = if (check_image g) (if (check_outcomes (image_of g) g) (if (check_rest (image_of g) g) 0 3) 2) 1
