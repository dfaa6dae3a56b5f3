-- The words in a list of bytes, one by one: where four bytes are left there is a word, and where fewer are there is none. Assumes nothing.
use Prim.Native.Nat.{ℕ, suc, ◌+◌, ◌-◌, ◌≤◌, ◌<◌}
use mathlib.Core.Path.{◌≡◌, refl, ◌∙◌}
use mathlib.Core.List.{List, [], ◌∷◌}
use native.Mathlib.Omega.{arith}
use borrow.Author.Tests.{le-leb, lt-leb}
use lib.ListN.{length, drop, get_or, length-drop}
use lib.Seq.{drop-cons}
use Rattle.rules.specs.Choice.{if_true, if_false}
use Rattle.rules.specs.Bytes.{word_of, words_in, words_at}

few : (l : List ℕ) → length l < 4 → words_in l ≡ []
few [] h = refl
few (a ∷ []) h = refl
few (a ∷ b ∷ []) h = refl
few (a ∷ b ∷ c ∷ []) h = refl
few (a ∷ b ∷ c ∷ d ∷ l) h = absurd (omega arith)

module _ (l : List ℕ) (i : ℕ) where
  -- the word at i
  abbrev pub word_in : ℕ
  word_in = word_of (get_or l i 0) (get_or l (i + 1) 0) (get_or l (i + 2) 0) (get_or l (i + 3) 0)

  pub no_word : length l < i + 4 → words_in (drop i l) ≡ []
  no_word h = few (drop i l) (rw length-drop (omega arith))

  next : (k j : ℕ) → j ≡ suc k → k < length l → drop k l ≡ get_or l k 0 ∷ drop j l
  next k j e h = drop-cons l k 0 h ∙ rw e

  pub one_word : i + 4 ≤ length l → words_in (drop i l) ≡ word_in ∷ words_in (drop (i + 4) l)
  one_word h =
      rw (
        next i (i + 1) (omega arith) (omega arith),
        next (i + 1) (i + 2) (omega arith) (omega arith),
        next (i + 2) (i + 3) (omega arith) (omega arith),
        next (i + 3) (i + 4) (omega arith) (omega arith),
      )

-- the words from an address on
module _ (base : ℕ) (l : List ℕ) (a : ℕ) where
  pub words_below : a < base → words_at base l a ≡ []
  unfolding words_at
  words_below h = if_false (lt-leb _ _ h) _ _

  pub words_from : base ≤ a → words_at base l a ≡ words_in (drop (a - base) l)
  unfolding words_at
  words_from h = if_true (le-leb _ _ h) _ _
