-- What is known of a checked image.
use Rattle.std.proofs.Common.{◌≡◌, ℕ, ◌+◌, ◌<◌, Bool, true, false, refl, sym, ap, ◌∙◌, get_or, eqb, leb, ltb, arith}
use Rattle.std.specs.Prelude.{Some, None}
use borrow.Author.Tests.{ltb-true, ltb-false, ne_eqb}
use Rattle.rules.specs.Choice.{if, if_false}
use Rattle.rules.specs.Address.{address_of}
use Rattle.rules.specs.Words.{nop}
use Rattle.rules.specs.Image as images
use Rattle.rules.specs.Image.{Image, code_section, contains, index, no_word}
use Rattle.rules.proofs.Keeps.{Aimed}
use Rattle.rules.proofs.Passes.{checked_of}
use Rattle.rules.proofs.Tests.{and_right}
use Rattle.rules.proofs.WalkEnds.{Sound}
use Rattle.obj_info.specs.Info.{image_of, some_word}
use Rattle.obj_info.specs.declared.info.ObjInfo.{ObjInfo}
use Rattle.jump_tables.proofs.Readings.{chose_some, chose_none}

-- the theorems on passes hold of it
pub sound_of : (o : ObjInfo) → Sound (image_of o)
sound_of o = (checked_of _ o.checked).sound

pub aimed_of : (o : ObjInfo) → Aimed (image_of o)
aimed_of o = (checked_of _ o.checked).aimed

-- ---- its words

module _ (im : Image) (a k : ℕ) (at : a ≡ address_of k) where
  pub word_there : (w : ℕ) → Some w ≡ some_word (images.word im a) → images.word im (address_of k) ≡ w
  word_there w e = ap (images.word im) (sym at) ∙ (chose_some (ltb (images.word im a) no_word) (images.word im a) w e).1

  pub no_nop : None ≡ some_word (images.word im a) → eqb (images.word im (address_of k)) nop ≡ false
  no_nop e =
      let high = ltb-false _ _ (chose_none (ltb (images.word im a) no_word) (images.word im a) e) in
      ap (λ (x : ℕ). eqb (images.word im x) nop) (sym at) ∙ ne_eqb _ _ (λ z. absurd (omega arith))

-- a `nop` lies in code
pub nop_low : (im : Image) (k : ℕ) → Sound im → images.word im (address_of k) ≡ nop → address_of k < 0xF000_0000
unfolding images.word
nop_low im k sound e = go (contains (code_section im) (address_of k)) refl e
  where
    go : (b : Bool) → contains (code_section im) (address_of k) ≡ b → if b (get_or (code_section im).words (index im (address_of k)) no_word) no_word ≡ nop → address_of k < 0xF000_0000
    go true h q =
        let l = ltb-true _ _ (and_right (leb (code_section im).base (address_of k)) (ltb (address_of k) ((code_section im).base + (code_section im).size)) h) in
        omega (arith, sound.fits)
    go false h q = let z : no_word ≡ nop = sym (if_false refl _ _) ∙ q in absurd (omega arith)
