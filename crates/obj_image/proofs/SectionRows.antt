-- The sections: what each test and each loop over them has found at its returns. Assumes nothing.
use Prim.Native.Nat.{ℕ, suc}
use mathlib.Core.Path.{◌≡◌, refl, sym, ap, ◌∙◌}
use mathlib.Core.List.{List, [], ◌∷◌}
use lib.ListN.{drop}
use Rattle.rules.specs.Choice.{if}
use Rattle.rules.specs.Address.{key}
use Rattle.rules.specs.Image as images
use Rattle.rules.specs.Given.{SectionRow, sections_of, section_of_row, image_of}
use Rattle.obj_image.specs.Lent.{Lent, rows, section_row, given, image}

-- ---- where an address lies

-- from the section i on; its bytes play no part
abbrev pub locate_in : ℕ → List SectionRow → ℕ → ℕ
locate_in i [] a = 0
locate_in i (r ∷ rs) a = if (images.contains (section_of_row r []) a) (key i a) (locate_in (suc i) rs a)

locate_any : (i : ℕ) (rs : List SectionRow) (b : List ℕ) (a : ℕ) → images.locate_from i (sections_of rs b) a ≡ locate_in i rs a
locate_any i [] b a = refl
locate_any i (r ∷ rs) b a = ap (if (images.contains (section_of_row r []) a) (key i a)) (locate_any (suc i) rs (drop r.given b) a)

pub located : (s : List ℕ) (a r : ℕ) → r ≡ locate_in 1 (rows 4 section_row s) a → (l : Lent) → l.sections ≡ s → r ≡ images.locate (image l) a
unfolding images.locate image_of given
located s a r h l e = h ∙ sym (ap (λ (t : List ℕ). locate_in 1 (rows 4 section_row t) a) e) ∙ sym (locate_any 1 (rows 4 section_row l.sections) l.bytes a)
