-- The code word at an address, from the bytes of the code section. Assumes nothing.
use Prim.Native.Nat.{ℕ, zero, suc, ◌+◌, ◌*◌, ◌-◌, ◌/◌, ◌%◌, ◌≤◌, ◌<◌}
use mathlib.Core.Path.{◌≡◌, refl, sym, ap, ◌∙◌}
use mathlib.Core.Bool.{true, false, ◌&&◌, and-false}
use mathlib.Core.List.{List, [], ◌∷◌}
use native.Mathlib.Omega.{arith}
use lib.Dec.{leb, ltb}
use lib.ListN.{length, take, drop, get_or, length-drop}
use lib.Seq.{drop-drop}
use borrow.Author.Tests.{le-leb, lt-leb, lt-ltb, le-ltb}
use Rattle.rules.specs.Choice.{if_true, if_false}
use Rattle.rules.specs.Bytes.{words_in}
use Rattle.rules.specs.Image as images
use Rattle.rules.specs.Image.{code_section, no_word, contains}
use Rattle.rules.specs.Check as rules
use Rattle.obj_image.specs.Lent.{Lent, given, image}
use Rattle.obj.specs.Sections.{IsCode, InBytes}
use Rattle.obj.specs.declared.sections.Code.{Code}

-- a word of the first n bytes
take_word : (i n : ℕ) (l : List ℕ) (w : ℕ) (ws : List ℕ) → i * 4 + 4 ≤ n → n ≤ length l → words_in (drop (i * 4) l) ≡ w ∷ ws → get_or (words_in (take n l)) i no_word ≡ w
take_word i n [] w ws h k e = absurd (omega arith)
take_word i n (a ∷ []) w ws h k e = absurd (omega arith)
take_word i n (a ∷ b ∷ []) w ws h k e = absurd (omega arith)
take_word i n (a ∷ b ∷ c ∷ []) w ws h k e = absurd (omega arith)
take_word i zero (a ∷ b ∷ c ∷ d ∷ l) w ws h k e = absurd (omega arith)
take_word i (suc zero) (a ∷ b ∷ c ∷ d ∷ l) w ws h k e = absurd (omega arith)
take_word i (suc (suc zero)) (a ∷ b ∷ c ∷ d ∷ l) w ws h k e = absurd (omega arith)
take_word i (suc (suc (suc zero))) (a ∷ b ∷ c ∷ d ∷ l) w ws h k e = absurd (omega arith)
take_word zero (suc (suc (suc (suc n)))) (a ∷ b ∷ c ∷ d ∷ l) w ws h k e = cc
take_word (suc i) (suc (suc (suc (suc n)))) (a ∷ b ∷ c ∷ d ∷ l) w ws h k e =
    let z : suc i * 4 ≡ suc (suc (suc (suc (i * 4)))) = omega arith in
    take_word i n l w ws (omega arith) (omega arith) (rw z at e)

module _ (b : List ℕ) (c : Code) (a : ℕ) (fits : InBytes b c) (l : Lent) (is_b : l.bytes ≡ b) (code : IsCode l c) (passed : rules.check_image (given l) ≡ true) where
  contains_is : contains (code_section (image l)) a ≡ (leb c.base a && ltb a (c.base + c.size))
  contains_is = rw (code.base, code.size) refl

  outside : contains (code_section (image l)) a ≡ false → no_word ≡ images.word (image l) a
  unfolding images.word
  outside h = sym (if_false h _ _)

  pub word_below : a < c.base → no_word ≡ images.word (image l) a
  word_below h = outside (contains_is ∙ rw (lt-leb c.base a h) refl)

  pub word_above : c.base + c.size ≤ a → no_word ≡ images.word (image l) a
  word_above h = outside (contains_is ∙ rw (le-ltb a (c.base + c.size) h) (and-false (leb c.base a)))

  pub word_here : (i w : ℕ) → a < 0x1_0000_0000 → c.base ≤ a → a < c.base + c.size → i ≡ (a - c.base) / 4 → words_in (drop (c.offset + i * 4) b) ≡ w ∷ words_in (drop (c.offset + i * 4 + 4) b) → w ≡ images.word (image l) a
  unfolding images.word images.index
  word_here i w small low high at e =
      let held : contains (code_section (image l)) a ≡ true = contains_is ∙ rw (le-leb c.base a low, lt-ltb a (c.base + c.size) high) refl in
      let m : a % 0x1_0000_0000 ≡ a = omega arith in
      let j : (a % 0x1_0000_0000 - (code_section (image l)).base) / 4 ≡ i = rw (m, ← code.base) (sym at) in
      let long : c.size ≤ length (drop c.offset b) = rw length-drop (omega (arith, fits.bytes)) in
      let in_words : i * 4 + 4 ≤ c.size = omega (arith, fits.words) in
      let got : get_or (words_in (take c.size (drop c.offset b))) i no_word ≡ w = take_word i c.size (drop c.offset b) w _ in_words long (ap words_in (drop-drop (i * 4) c.offset b) ∙ e) in
      sym (if_true held _ _
      ∙ ap (λ (n : ℕ). get_or (code_section (image l)).words n no_word) j
      ∙ ap (λ (t : List ℕ). get_or t i no_word) (sym (code.words passed) ∙ ap (λ (t : List ℕ). words_in (take c.size (drop c.offset t))) is_b)
      ∙ got)
