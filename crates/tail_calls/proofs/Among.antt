-- Whether one of the next words begins a prologue, word by word.
use Rattle.std.proofs.Common.{◌≡◌, ℕ, zero, suc, ◌+◌, ◌-◌, ◌*◌, ◌/◌, ◌<◌, ◌≤◌, ◌||◌, refl, sym, ap, ◌∙◌, Bool, true, false, List, [], ◌∷◌, length, take, drop, min, arith, drop_of_length-le, length-drop}
use Rattle.std.proofs.Math.Seq.{take-length}
use native.Mathlib.Decide.{dec_lt}
use Rattle.rules.specs.Choice.{if, if_true, if_false}
use Rattle.rules.specs.Address.{address_of}
use Rattle.rules.specs.Bytes.{words_in, words_at}
use Rattle.rules.specs.Image.{Image, code_section, index, words_from}
use Rattle.rules.specs.Sequences.{check_prologue_sequence, prologue_pairs, prologue_among}
use Rattle.rules.specs.Words.{is_stwu, is_mflr}
use Rattle.rules.proofs.Tests.{or_left_false, or_right_false}
use Rattle.rules.proofs.Bytes as bytes
use Rattle.jump_tables.proofs.Chunks.{words_drop}

no_words : (n : ℕ) → prologue_among n [] ≡ false
no_words zero = refl
no_words (suc n) = refl

-- no word is left
pub none_left : (n : ℕ) (b : List ℕ) → n ≤ 0 → false ≡ prologue_among n (words_in b)
none_left n b h = let z : n ≡ 0 = omega arith in rw z refl

pub no_bytes : (n : ℕ) (b : List ℕ) → length b < 4 → false ≡ prologue_among n (words_in b)
no_bytes n b h = sym (ap (prologue_among n) (bytes.no_word b 0 (omega arith)) ∙ no_words n)

-- a word that begins no prologue by itself
no_first : (w : ℕ) (ws : List ℕ) → (is_stwu w || is_mflr w) ≡ false → check_prologue_sequence (w ∷ ws) ≡ false
unfolding check_prologue_sequence prologue_pairs
no_first w ws h = rw (or_left_false (is_stwu w) (is_mflr w) h, or_right_false (is_stwu w) (is_mflr w) h) refl

pub no_prologue : (b ws : List ℕ) (at w : ℕ) (p q : Bool) → at + 4 ≤ length b → words_in (drop at b) ≡ w ∷ ws → p ≡ is_stwu w → q ≡ is_mflr w → (p || q) ≡ false → false ≡ check_prologue_sequence (words_at 0 b at)
no_prologue b ws at w p q inside e f g h =
    let z : at - 0 ≡ at = omega arith in
    sym (ap check_prologue_sequence (bytes.words_from 0 b at (omega arith) ∙ ap (λ (i : ℕ). words_in (drop i b)) z ∙ e) ∙ no_first w ws (rw (f, g) at h))

-- one is
module _ (n : ℕ) (b : List ℕ) (r : Bool) (some : 0 < n) (inside : 4 ≤ length b) (is_r : r ≡ check_prologue_sequence (words_at 0 b 0)) where
  here : check_prologue_sequence (words_in b) ≡ r
  here = sym (is_r ∙ ap check_prologue_sequence (bytes.words_from 0 b 0 (omega arith)))

  turn : prologue_among n (words_in b) ≡ if r true (prologue_among (n - 1) (words_in (drop 4 b)))
  turn =
      let z : n ≡ suc (n - 1) = omega arith in
      let w = bytes.one_word b 0 inside in
      ap (λ (l : ℕ). prologue_among l (words_in b)) z ∙
      ap (λ (l : List ℕ). prologue_among (suc (n - 1)) l) w ∙
      ap (λ (l : List ℕ). if (check_prologue_sequence l) true (prologue_among (n - 1) (words_in (drop 4 b)))) (sym w) ∙
      ap (λ (x : Bool). if x true (prologue_among (n - 1) (words_in (drop 4 b)))) here

  pub begins : r ≡ true → true ≡ prologue_among n (words_in b)
  begins h = sym (turn ∙ if_true h _ _)

  pub goes_on : r ≡ false → prologue_among (n - 1) (words_in (drop 4 b)) ≡ prologue_among n (words_in b)
  goes_on h = sym (turn ∙ if_false h _ _)

-- a slice up to its end
pub to_end : {A : Type 0} (m : ℕ) (l : List A) → take (length l - m) (drop m l) ≡ drop m l
to_end m l = ap (λ (n : ℕ). take n (drop m l)) (sym (length-drop m l)) ∙ take-length (drop m l)

-- the words from an address on
drop_min : {A : Type 0} (n : ℕ) (l : List A) → drop (min n (length l)) l ≡ drop n l
drop_min n l = go (dec_lt n (length l))
  where
    go : Dec (n < length l) → drop (min n (length l)) l ≡ drop n l
    go (yes h) = let e : min n (length l) ≡ n = omega arith in rw e refl
    go (no h) = let e : min n (length l) ≡ length l = omega arith in rw e (drop_of_length-le l (omega arith) ∙ sym (drop_of_length-le l (omega arith)))

pub from_start : (im : Image) (b : List ℕ) (k base from at : ℕ) → words_in b ≡ (code_section im).words → base ≡ (code_section im).base → from ≡ (address_of k - base) / 4 * 4 → at ≡ min from (length b) → words_in (drop at b) ≡ words_from im k
unfolding words_from index
from_start im b k base from at words is_base is_from is_at =
    ap (λ (i : ℕ). words_in (drop i b)) is_at ∙
    ap words_in (drop_min from b) ∙
    ap (λ (i : ℕ). words_in (drop i b)) is_from ∙
    sym (words_drop ((address_of k - base) / 4) b) ∙
    ap (drop ((address_of k - base) / 4)) words ∙
    ap (λ (f : ℕ). drop ((address_of k - f) / 4) (code_section im).words) is_base
