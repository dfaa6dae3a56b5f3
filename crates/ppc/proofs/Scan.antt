-- Words in chunks of four bytes, scans case by case, and sequences. Assumes nothing.
use Prim.Native.Nat.{ℕ, zero, suc, ◌+◌, ◌*◌, ◌-◌, ◌/◌, ◌<◌, ◌≤◌}
use mathlib.Core.Path.{◌≡◌, refl, sym, ◌∙◌, ap}
use mathlib.Core.Bool.{Bool, true, false, ◌||◌, or-false}
use mathlib.Core.List.{List, [], ◌∷◌}
use native.Mathlib.Omega.{arith}
use mir.Syntax.{w32}
use lib.ListN.{length, take, drop, get_or, length-drop}
use Rattle.std.proofs.Common.{drop-drop}
use Rattle.std.proofs.lemmas.List.{take_all}
use Rattle.std.specs.Int.{from_be_bytes}
use Rattle.std.specs.List.{slice_range}
use Rattle.std.specs.Simd.{first_chunks}
use Rattle.rules.specs.Choice.{if_true, if_false}
use Rattle.rules.specs.Bytes.{words_in, words_at}
use Rattle.rules.specs.Sequences.{is_end_of_seq, scan}
use Rattle.rules.proofs.Bytes.{no_word, words_below, words_from}

-- the first of some words, from its four bytes
pub first_is : (l : List ℕ) (w : ℕ) → 4 ≤ length l → w ≡ from_be_bytes w32 (take 4 l) → words_in l ≡ w ∷ words_in (drop 4 l)
first_is [] w h e = absurd (omega arith)
first_is (a ∷ []) w h e = absurd (omega arith)
first_is (a ∷ b ∷ []) w h e = absurd (omega arith)
first_is (a ∷ b ∷ c ∷ []) w h e = absurd (omega arith)
first_is (a ∷ b ∷ c ∷ d ∷ l) w h e = let s : ((a * 256 + b) * 256 + c) * 256 + d ≡ w = omega arith in rw s refl

-- chunk k of four bytes
chunk_at : (n k : ℕ) (l : List ℕ) → k < n → get_or (first_chunks 4 n l) k [] ≡ take 4 (drop (4 * k) l)
chunk_at zero k l h = absurd (omega arith)
chunk_at (suc n) zero l h = refl
chunk_at (suc n) (suc k) l h = let e : 4 + 4 * k ≡ 4 * suc k = omega arith in chunk_at n k (drop 4 l) (omega arith) ∙ rw (drop-drop, e)

pub word_is : (l : List ℕ) (cs : List (List ℕ)) (k w : ℕ) → cs ≡ first_chunks 4 (length l / 4) l → length cs ≡ length l / 4 → k < length cs → w ≡ from_be_bytes w32 (get_or cs k [])
    → words_in (drop (4 * k) l) ≡ w ∷ words_in (drop (4 * (k + 1)) l)
word_is l cs k w e n h is =
    let long : 4 ≤ length (drop (4 * k) l) = rw length-drop (omega arith) in
    let j : 4 * k + 4 ≡ 4 * (k + 1) = omega arith in
    let c : get_or cs k [] ≡ take 4 (drop (4 * k) l) = rw e (chunk_at (length l / 4) k l (omega arith)) in
    first_is (drop (4 * k) l) w long (is ∙ ap (from_be_bytes w32) c) ∙ rw (drop-drop, j)

-- the words from an address on
module _ (base a : ℕ) (l : List ℕ) where
  pub below_section : (base ≤ a → ⊥) → words_at base l a ≡ []
  below_section h = words_below base l a (omega arith)

  pub past_section : base ≤ a → length l < a - base + 4 → words_at base l a ≡ []
  past_section h e = words_from base l a h ∙ no_word l (a - base) e

  -- s are the bytes from there
  pub in_section : (s word rest : List ℕ) (w : ℕ) → base ≤ a → s ≡ slice_range l (a - base) (length l) → 4 ≤ length s → word ≡ take 4 s → rest ≡ drop 4 s → w ≡ from_be_bytes w32 word
      → words_at base l a ≡ w ∷ words_in rest
  in_section s word rest w h e long ew er is =
      let n : length (drop (a - base) l) ≤ length l - (a - base) = rw length-drop (omega arith) in
      let all : s ≡ drop (a - base) l = e ∙ take_all (length l - (a - base)) (drop (a - base) l) n in
      words_from base l a h ∙ ap words_in (sym all) ∙ first_is s w long (is ∙ ap (from_be_bytes w32) ew) ∙ ap (λ (r : List ℕ). w ∷ words_in r) (sym er)

-- the words l, of which w is the first and ws are the others, come to what the words whole come to
module _ (t : ℕ → Bool) (w : ℕ) (l ws whole : List ℕ) (same : scan t l ≡ scan t whole) (word : l ≡ w ∷ ws) where
  pub scan_found : (b : Bool) → b ≡ t w → b ≡ true → true ≡ scan t whole
  scan_found b e h = sym (if_true (sym e ∙ h) _ _) ∙ ap (scan t) (sym word) ∙ same

  pub scan_stopped : (b d : Bool) → b ≡ t w → b ≡ false → d ≡ is_end_of_seq w → d ≡ true → false ≡ scan t whole
  scan_stopped b d e h f k = sym (if_false (sym e ∙ h) _ _ ∙ if_true (sym f ∙ k) _ _) ∙ ap (scan t) (sym word) ∙ same

  pub scan_on : (b d : Bool) → b ≡ t w → b ≡ false → d ≡ is_end_of_seq w → d ≡ false → scan t ws ≡ scan t whole
  scan_on b d e h f k = sym (if_false (sym e ∙ h) _ _ ∙ if_false (sym f ∙ k) _ _) ∙ ap (scan t) (sym word) ∙ same

pub scan_ended : (t : ℕ → Bool) (i : ℕ) (l whole : List ℕ) → scan t (words_in (drop i l)) ≡ scan t whole → length l < i + 4 → false ≡ scan t whole
scan_ended t i l whole same h = ap (scan t) (sym (no_word l i h)) ∙ same

-- one of three, by the answers so far: v is the last of them
module _ (x y z v : Bool) where
  pub first_is_there : v ≡ x → v ≡ true → v ≡ (x || (y || (z || false)))
  first_is_there e h = rw (sym e ∙ h) h

  pub second_is_there : x ≡ false → v ≡ y → v ≡ true → v ≡ (x || (y || (z || false)))
  second_is_there f e h = rw (f, sym e ∙ h) h

  pub third_decides : x ≡ false → y ≡ false → v ≡ z → v ≡ (x || (y || (z || false)))
  third_decides f g e = rw (f, g, or-false) e
