-- The words of the code section, read from its bytes.
use Rattle.std.proofs.Common.{◌≡◌, ℕ, zero, suc, ◌+◌, ◌-◌, ◌*◌, ◌/◌, ◌%◌, ◌<◌, ◌≤◌, refl, sym, ap, ◌∙◌, Bool, true, List, [], ◌∷◌, length, map, take, drop, get_or, min, leb, arith}
use Rattle.std.proofs.lemmas.List.{take_min}
use borrow.Author.Tests.{leb-true, ltb-true}
use Rattle.rules.specs.Choice.{if, if_true, any}
use Rattle.rules.specs.Address.{address_of}
use Rattle.rules.specs.Bytes.{words_in, words_at}
use Rattle.rules.specs.Image as images
use Rattle.rules.specs.Image.{Image, code_section, code_number, contains, in_code, index, words_from, words_between, no_word}
use Rattle.rules.specs.Words.{is_function_terminator}
use Rattle.rules.specs.Check.{check}
use Rattle.rules.proofs.Bytes as bytes
use Rattle.rules.proofs.Passes.{checked_of}
use Rattle.rules.proofs.Tests.{and_left, and_right}
use Rattle.obj_image.specs.Lent.{Lent, given, image}
use Rattle.jump_tables.specs.Readings.{number_in}
use Rattle.jump_tables.proofs.Chunks.{words_drop}
use Rattle.walks.specs.Code.{IsWordStart}

-- ---- an address of code

module _ (im : Image) (k : ℕ) (inside : contains (code_section im) (address_of k) ≡ true) where
  pub above : (code_section im).base ≤ address_of k
  above = leb-true _ _ (and_left _ _ inside)

  pub below : address_of k < (code_section im).base + (code_section im).size
  below = ltb-true _ _ (and_right (leb (code_section im).base (address_of k)) _ inside)

  pub word_start : (base a at : ℕ) → base ≡ (code_section im).base → a ≡ address_of k → at ≡ a - (a - base) % 4 → IsWordStart im k at
  word_start base a at e f g = record { low = above; at = omega (arith, above) }

  -- the word there, by its number
  pub word_is : (i w : ℕ) → i ≡ (address_of k - (code_section im).base) / 4 → w ≡ get_or (code_section im).words i no_word → w ≡ images.word im (address_of k)
  unfolding images.word index
  word_is i w at e =
      let twice : address_of k % 0x1_0000_0000 ≡ address_of k = omega arith in
      let same : (address_of k % 0x1_0000_0000 - (code_section im).base) / 4 ≡ i = rw twice (sym at) in
      sym (if_true inside _ _ ∙ ap (λ (n : ℕ). get_or (code_section im).words n no_word) same ∙ sym e)

-- the word with a number
pub nth_is : (b ws : List ℕ) (i w : ℕ) (rest : List ℕ) → words_in b ≡ ws → words_in (drop (i * 4) b) ≡ w ∷ rest → w ≡ get_or ws i no_word
nth_is b ws i w rest words e = sym (ap (λ (l : List ℕ). get_or l i no_word) (sym words) ∙ first_of i (words_in b) (words_drop i b ∙ e))
  where
    first_of : (i : ℕ) (l : List ℕ) → drop i l ≡ w ∷ rest → get_or l i no_word ≡ w
    first_of zero [] e = cc
    first_of zero (x ∷ l) e = cc
    first_of (suc i) [] e = cc
    first_of (suc i) (x ∷ l) e = first_of i l e

-- the section is whole words
pub whole_words : (l : Lent) → check (given l) ≡ 0 → (code_section (image l)).size % 4 ≡ 0
whole_words l checked = (checked_of (given l) checked).sound.aligned

-- ---- the words from an address on

pub from_word : (im : Image) (base : ℕ) (b : List ℕ) (k a : ℕ) → base ≡ (code_section im).base → words_in b ≡ (code_section im).words → IsWordStart im k a → words_at base b a ≡ words_from im k
unfolding words_from index
from_word im base b k a e words s =
    let i : ℕ = (address_of k - base) / 4 in
    let at : a - base ≡ (address_of k - base) / 4 * 4 = rw e (omega (arith, s.at)) in
    bytes.words_from base b a (omega (arith, s.at)) ∙
    ap (λ (n : ℕ). words_in (drop n b)) at ∙
    sym (words_drop i b) ∙
    ap (drop i) words ∙
    ap (λ (f : ℕ). drop ((address_of k - f) / 4) (code_section im).words) e

-- cut off at the end
pub cut : {A : Type 0} (i n : ℕ) (l : List A) → take (min (i + n) (length l) - min i (length l)) (drop (min i (length l)) l) ≡ take n (drop i l)
cut zero n l = let e : min (0 + n) (length l) - min 0 (length l) ≡ min n (length l) = omega arith in let z : min 0 (length l) ≡ 0 = omega arith in rw (e, z) (take_min n l)
cut (suc i) n [] = let e : min (suc i + n) 0 - min (suc i) 0 ≡ 0 = omega arith in rw e (none n)
  where
    none : {A : Type 0} (n : ℕ) → ◌≡◌ {A = List A} [] (take n [])
    none zero = refl
    none (suc n) = refl
cut (suc i) n (x ∷ l) =
    let e : min (suc i + n) (suc (length l)) - min (suc i) (suc (length l)) ≡ min (i + n) (length l) - min i (length l) = omega arith in
    let f : min (suc i) (suc (length l)) ≡ suc (min i (length l)) = omega arith in
    rw (e, f) (cut i n l)

-- a test of numbers, asked of the bytes
any_map : {A B : Type 0} (f : A → B) (p : B → Bool) (l : List A) → any (λ x. p (f x)) l ≡ any p (map f l)
any_map f p [] = refl
any_map f p (x ∷ l) = ap (λ b. if (p (f x)) true b) (any_map f p l)

map_take : {A B : Type 0} (f : A → B) (n : ℕ) (l : List A) → map f (take n l) ≡ take n (map f l)
map_take f zero l = refl
map_take f (suc n) [] = refl
map_take f (suc n) (x ∷ l) = ap (λ r. f x ∷ r) (map_take f n l)

map_drop : {A B : Type 0} (f : A → B) (n : ℕ) (l : List A) → map f (drop n l) ≡ drop n (map f l)
map_drop f zero l = refl
map_drop f (suc n) [] = refl
map_drop f (suc n) (x ∷ l) = map_drop f n l

pub any_between : (im : Image) (chunks : List (List ℕ)) (k to i n start end : ℕ) → map number_in chunks ≡ (code_section im).words → i ≡ (address_of k - (code_section im).base) / 4 → n ≡ (to - k) / 4 → start ≡ min i (length chunks) → end ≡ min (i + n) (length chunks) → any (λ c. is_function_terminator (number_in c)) (take (end - start) (drop start chunks)) ≡ any is_function_terminator (words_between im k to)
unfolding words_between words_from index
any_between im chunks k to i n start end words at count s e =
    rw (s, e, cut i n chunks)
    (any_map number_in is_function_terminator (take n (drop i chunks)) ∙
    ap (any is_function_terminator) (map_take number_in n (drop i chunks) ∙ ap (take n) (map_drop number_in i chunks ∙ ap (drop i) words) ∙ rw (at, count) refl))
