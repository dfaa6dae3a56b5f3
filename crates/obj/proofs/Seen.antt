-- What the code section comes to for the image of the sections alone. Assumes nothing.
use Prim.Native.Nat.{ℕ, ◌+◌, ◌/◌, ◌%◌}
use mathlib.Core.Path.{◌≡◌, refl}
use mathlib.Core.Bool.{Bool, ◌&&◌, not}
use mathlib.Core.List.{List, []}
use lib.Dec.{leb, ltb, eqb}
use Rattle.rules.specs.Image.{contains, code_section}
use Rattle.rules.specs.Check as rules
use Rattle.obj_image.specs.Lent.{Lent, seen}
use Rattle.obj.specs.Sections.{IsCode}
use Rattle.obj_rows.specs.Skips.{range_of}
use Rattle.obj_rows.specs.Symbols.{symbol_of}
use Rattle.obj.specs.declared.sections.Code.{Code}
use Rattle.obj_rows.specs.declared.skips.Range.{Range}
use Rattle.obj_rows.specs.declared.symbols.Symbol.{Symbol}
use Rattle.obj_rows.proofs.Seen.{only}
pub use Rattle.obj_rows.proofs.Seen.{any_located, Located, inside_is, below_is}

-- where c is the code section
abbrev pub CodeIs : List ℕ → Code → Type 0
CodeIs s c = (l : Lent) → l.sections ≡ s → IsCode l c

pub function_is : (s : List ℕ) (x : Symbol) (b d : Bool) → b ≡ rules.is_symbol (seen []) (symbol_of x) → d ≡ contains (code_section (seen s)) x.address → (b && d && eqb (x.size % 4) 0) ≡ rules.is_function_symbol (seen s) (symbol_of x)
function_is s x b d eb ed = rw (eb, ed)

module _ (s : List ℕ) (c : Code) (is : CodeIs s c) where
  pub code_address : (a v b z : ℕ) → v ≡ a → b ≡ c.base → z ≡ c.size → (leb c.base a && ltb v (b + z)) ≡ contains (code_section (seen s)) a
  unfolding only
  code_address a v b z ev eb ez = rw (ev, eb, ez, (is (only s) refl).base, (is (only s) refl).size) refl

  pub skip_is : (r : Range) (v b z : ℕ) → v ≡ r.past → b ≡ c.base → z ≡ c.size → (eqb (r.first % 4) 0 && eqb (r.past % 4) 0 && ltb r.first r.past && leb c.base r.first && leb v (b + z)) ≡ rules.is_skip (seen s) (range_of r)
  unfolding only
  skip_is r v b z ev eb ez = rw (ev, eb, ez, (is (only s) refl).base, (is (only s) refl).size) refl

  pub object_is : (x : Symbol) (b : Bool) (r : ℕ) → b ≡ rules.is_symbol (seen []) (symbol_of x) → Located s x.address r → (b && not (eqb r 0) && not (eqb (r / 0x1_0000_0000) c.number)) ≡ rules.is_object_symbol (seen s) (symbol_of x)
  unfolding only
  object_is x b r eb h = rw (eb, h (only s) refl, (is (only s) refl).number) refl

  pub words_is : (code_section (seen s)).size / 4 ≡ c.size / 4
  unfolding only
  words_is = rw (is (only s) refl).size refl
