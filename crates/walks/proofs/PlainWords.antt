-- Words of which nothing is noted, and what is noted of a word before it does what it does.
use Rattle.std.proofs.Common.{◌≡◌, ℕ, zero, suc, ◌-◌, ◌/◌, refl, sym, ap, ◌∙◌, Bool, true, false, ◌&&◌, ◌||◌, not, List, [], ◌∷◌, drop, get_or, eqb, arith}
use mathlib.Core.Bool.{or-false, false≢true}
use borrow.Author.Tests.{not-true}
use Rattle.rules.specs.Choice.{if, if_true, if_false, Answer, ok, fault, ◌>>=◌}
use Rattle.rules.specs.Address.{address_of}
use Rattle.rules.specs.Words as words
use Rattle.rules.specs.Sequences as sequences
use Rattle.rules.specs.Image as images
use Rattle.rules.specs.Image.{Image, code_section}
use Rattle.rules.specs.Ordered.{self, without, empty}
use Rattle.rules.specs.Slices.{Slices, discard_possible_block, with_returns, with_possible_blocks}
use Rattle.rules.specs.Step as rules
use Rattle.rules.proofs.Tests.{and_left, and_right}
use Rattle.walks.specs.Noted.{plain, noted}

-- ---- by the primary opcode

module _ (w : ℕ) (h : plain w ≡ true) where
  four : (not (eqb (words.primary w) 19) && not (eqb (words.primary w) 31) && not (eqb (words.primary w) 32) && not (eqb (words.primary w) 37)) ≡ true
  unfolding plain
  four = h

  not_19 : eqb (words.primary w) 19 ≡ false
  not_19 = not-true _ (and_left _ _ (and_left _ _ (and_left _ _ four)))

  not_31 : eqb (words.primary w) 31 ≡ false
  not_31 = not-true _ (and_right (not (eqb (words.primary w) 19)) _ (and_left _ _ (and_left _ _ four)))

  not_32 : eqb (words.primary w) 32 ≡ false
  not_32 = not-true _ (and_right (not (eqb (words.primary w) 19) && not (eqb (words.primary w) 31)) _ (and_left _ _ four))

  not_37 : eqb (words.primary w) 37 ≡ false
  not_37 = not-true _ (and_right (not (eqb (words.primary w) 19) && not (eqb (words.primary w) 31) && not (eqb (words.primary w) 32)) _ four)

  no_lwz : words.is_lwz w ≡ false
  unfolding words.is_lwz
  no_lwz = rw not_32 refl

  no_stwu : words.is_stwu w ≡ false
  unfolding words.is_stwu
  no_stwu = rw (not_37, not_31) refl

  no_mflr : words.is_mflr w ≡ false
  unfolding words.is_mflr
  no_mflr = rw not_31 refl

  no_mtlr : words.is_mtlr w ≡ false
  unfolding words.is_mtlr
  no_mtlr = rw not_31 refl

  no_or : words.is_or w ≡ false
  unfolding words.is_or
  no_or = rw not_31 refl

  no_rfi : words.is_rfi w ≡ false
  unfolding words.is_rfi
  no_rfi = rw not_19 refl

  no_blr : words.is_conditional_blr w ≡ false
  unfolding words.is_conditional_blr
  no_blr = rw not_19 refl

  no_prologue : (ws : List ℕ) → sequences.check_prologue_sequence (w ∷ ws) ≡ false
  unfolding sequences.check_prologue_sequence sequences.prologue_pairs
  no_prologue ws = rw (no_stwu, no_mflr) refl

  no_epilogue : (ws : List ℕ) → sequences.check_epilogue_sequence (w ∷ ws) ≡ false
  unfolding sequences.check_epilogue_sequence sequences.epilogue_pairs
  no_epilogue ws = rw (no_mtlr, no_or) refl

  -- no list that begins with it begins a sequence; nor does an empty one
  from_drop : (f : List ℕ → Bool) → f [] ≡ false → ((ws : List ℕ) → f (w ∷ ws) ≡ false) → (l : List ℕ) (i d : ℕ) → w ≡ get_or l i d → f (drop i l) ≡ false
  from_drop f e g [] zero d q = e
  from_drop f e g [] (suc i) d q = e
  from_drop f e g (x ∷ l) zero d q = ap (λ (y : ℕ). f (y ∷ l)) (sym q) ∙ g l
  from_drop f e g (x ∷ l) (suc i) d q = from_drop f e g l i d q

empty_prologue : sequences.check_prologue_sequence [] ≡ false
unfolding sequences.check_prologue_sequence sequences.prologue_pairs
empty_prologue = refl

empty_epilogue : sequences.check_epilogue_sequence [] ≡ false
unfolding sequences.check_epilogue_sequence sequences.epilogue_pairs
empty_epilogue = refl

-- ---- a word of the image

module _ (im : Image) (addr w : ℕ) (here_in : images.contains (code_section im) (address_of addr) ≡ true) (is_w : w ≡ images.word im (address_of addr)) (h : plain w ≡ true) where
  here : w ≡ get_or (code_section im).words (images.index im addr) images.no_word
  unfolding images.word images.index
  here =
      let m : address_of (address_of addr) ≡ address_of addr = omega arith in
      is_w ∙ if_true here_in _ _ ∙ ap (λ (a : ℕ). get_or (code_section im).words ((a - (code_section im).base) / 4) images.no_word) m

  quiet_prologue : sequences.check_prologue_sequence (images.words_from im addr) ≡ false
  unfolding images.words_from
  quiet_prologue = from_drop w h sequences.check_prologue_sequence empty_prologue (no_prologue w h) (code_section im).words (images.index im addr) images.no_word here

  quiet_epilogue : sequences.check_epilogue_sequence (images.words_from im addr) ≡ false
  unfolding images.words_from
  quiet_epilogue = from_drop w h sequences.check_epilogue_sequence empty_epilogue (no_epilogue w h) (code_section im).words (images.index im addr) images.no_word here

  epilogue_kept : (s : Slices) → rules.check_epilogue im addr s ≡ ok s
  unfolding rules.check_epilogue
  epilogue_kept s = if_false quiet_epilogue _ _

  prologue_kept : (s : Slices) → rules.check_prologue im addr s ≡ ok s
  unfolding rules.check_prologue
  prologue_kept s = if_false (ap words.is_lwz (sym is_w) ∙ no_lwz w h) _ _ ∙ if_false quiet_prologue _ _

  sequences_kept : (s : Slices) → rules.check_sequences im addr s ≡ ok s
  unfolding rules.check_sequences ◌>>=◌
  sequences_kept s = by (images.told_at im addr).mark
    where
      by : (b : Bool) → if b (rules.check_epilogue im addr s) (rules.check_prologue im addr s >>= λ t. rules.check_epilogue im addr t) ≡ ok s
      by true = unfold if in epilogue_kept s
      by false = unfold if in rw (prologue_kept s) (epilogue_kept s)

  same_fields : (s : Slices) (c r : Bool) (p : List ℕ) → c ≡ s.conditional_blr → r ≡ s.rfi → p ≡ s.possible_blocks → with_possible_blocks (with_returns s c r) p ≡ s
  same_fields s c r p a b d = rw (a, b, d) refl

  note_kept : (s : Slices) → s.possible_blocks ≡ [] → rules.note_word im addr s ≡ s
  unfolding rules.note_word discard_possible_block
  note_kept s e =
      same_fields s _ _ _ (ap (λ (y : ℕ). s.conditional_blr || words.is_conditional_blr y) (sym is_w) ∙ ap (λ (b : Bool). s.conditional_blr || b) (no_blr w h) ∙ or-false s.conditional_blr)
      (ap (λ (y : ℕ). s.rfi || words.is_rfi y) (sym is_w) ∙ ap (λ (b : Bool). s.rfi || b) (no_rfi w h) ∙ or-false s.rfi) (ap (without self addr) e ∙ sym e)

  pub plain_noted : (s : Slices) → s.possible_blocks ≡ [] → ok s ≡ noted im addr s
  unfolding noted ◌>>=◌
  plain_noted s e = rw (sequences_kept s, note_kept s e) refl

pub plain_by : (w op : ℕ) → op ≡ words.primary w → (not (eqb op 19) && not (eqb op 31) && not (eqb op 32) && not (eqb op 37)) ≡ plain w
unfolding plain
plain_by w op e = rw e refl

-- and then what the word does
pub split : (e : rules.Around) (k b : ℕ) (w : rules.Walk) → rules.instruction_callback e k b w ≡ (noted e.image k w.slices >>= λ s. rules.do_word e k b (rules.with_slices w s))
unfolding rules.instruction_callback noted ◌>>=◌
split e k b w = by (rules.check_sequences e.image k w.slices)
  where
    by : (a : Answer Slices) → (a >>= λ s. rules.do_word e k b (rules.with_slices w (rules.note_word e.image k s))) ≡ ((a >>= λ s. ok (rules.note_word e.image k s)) >>= λ s. rules.do_word e k b (rules.with_slices w s))
    by (ok x) = refl
    by (fault n) = refl

-- a list that is empty
pub emptied : (l : List ℕ) (b : Bool) → b ≡ empty l → b ≡ true → l ≡ []
emptied [] b e t = refl
emptied (x ∷ l) b e t = absurd (false≢true (sym e ∙ t))
