-- A branch's distance: its sign by cases, its size, and its sum with an address in 32 bits. Assumes nothing.
use Prim.Native.Nat.{ℕ, suc, ◌+◌, ◌*◌, ◌-◌, ◌%◌, ◌≤◌, ◌<◌}
use mathlib.Core.Path.{◌≡◌, sym, ◌∙◌, ap}
use native.Mathlib.Omega.{arith}
use native.Mathlib.Decide.{dec_lt}
use borrow.Author.Tests.{lt-ltb, le-ltb}
use lib.IntN.{ℤ, pos, negsuc, neg_ℤ, sub_ℕ, ◌+ℤ◌, ◌-ℤ◌, ◌*ℤ◌}
use mir.Syntax.{w32}
use mir.Val.{SFits, to_z, of_z}
use mir.Facts.{to_z_pos, to_z-of_z}
use Rattle.rules.specs.Choice.{if, if_true, if_false}
use Rattle.rules.specs.Words.{field}
use Rattle.rules.specs.Branches.{signed, branch_words, branch_distance, in_32_bits, is_absolute, branch_dest}

-- a count of 24 bits below half is itself
near : (x : ℕ) → x < 8388608 → signed 23 x ≡ pos x
near x h = if_true (lt-ltb _ _ h) _ _

below_zero : (x : ℕ) → x < 16777216 → sub_ℕ x 16777216 ≡ negsuc (16777215 - x)
below_zero x h = let e : 16777216 - suc x ≡ 16777215 - x = omega arith in rw (lt-ltb _ _ h, e)

-- and above it lies below 0
far : (x : ℕ) → 8388608 ≤ x → x < 16777216 → signed 23 x ≡ negsuc (16777215 - x)
far x h k = if_false (le-ltb _ _ h) _ _ ∙ below_zero x k

four_times : (k : ℕ) → pos 4 *ℤ negsuc k ≡ negsuc (4 * k + 3)
four_times k = let e : 4 * suc k ≡ suc (4 * k + 3) = omega arith in ap (λ (n : ℕ). neg_ℤ (pos n)) e

count_below : (w : ℕ) → field 2 24 w < 16777216
count_below w = omega arith

-- an integer in 32 bits, added to an address there
sum_in_32_bits : (a : ℕ) (z : ℤ) → in_32_bits (pos a +ℤ z) ≡ (a + in_32_bits z) % 4294967296
sum_in_32_bits a (pos n) = omega arith
sum_in_32_bits a (negsuc n) = by (dec_lt a (suc n))
  where
    by : Dec (a < suc n) → in_32_bits (sub_ℕ a (suc n)) ≡ (a + (4294967295 - n % 4294967296)) % 4294967296
    by (yes h) = rw (lt-ltb _ _ h) (omega arith)
    by (no h) = let k : suc n ≤ a = omega arith in rw (le-ltb _ _ k) (omega arith)

words_near : (w : ℕ) → field 2 24 w < 8388608 → branch_words w ≡ pos (field 2 24 w)
unfolding branch_words
words_near w h = near _ h

words_far : (w : ℕ) → 8388608 ≤ field 2 24 w → branch_words w ≡ negsuc (16777215 - field 2 24 w)
unfolding branch_words
words_far w h = far _ h (count_below w)

distance_near : (w : ℕ) → field 2 24 w < 8388608 → branch_distance w ≡ pos (4 * field 2 24 w)
unfolding branch_distance
distance_near w h = rw (words_near w h)

distance_far : (w : ℕ) → 8388608 ≤ field 2 24 w → branch_distance w ≡ negsuc (4 * (16777215 - field 2 24 w) + 3)
unfolding branch_distance
distance_far w h = rw (words_far w h) (four_times _)

distance_fits : (w : ℕ) → SFits w32 (branch_distance w)
distance_fits w = by (dec_lt (field 2 24 w) 8388608)
  where
    by : Dec (field 2 24 w < 8388608) → SFits w32 (branch_distance w)
    by (yes h) = rw (distance_near w h) (record { sfits = omega arith })
    by (no h) = let k : 8388608 ≤ field 2 24 w = omega arith in rw (distance_far w k) (record { sfits = omega arith })

-- the same of the numbers that the code holds: x is the field
module _ (w x : ℕ) (is : x ≡ field 2 24 w) where
  pub count_near : x < 8388608 → to_z w32 x ≡ branch_words w
  count_near h = to_z_pos w32 (omega arith) ∙ ap pos is ∙ sym (words_near w (omega arith))

  far_is : 8388608 ≤ x → to_z w32 x -ℤ pos 16777216 ≡ negsuc (16777215 - x)
  far_is h = rw (to_z_pos w32 {n = x} (omega arith)) (below_zero x (omega arith))

  pub count_far_fits : 8388608 ≤ x → SFits w32 (to_z w32 x -ℤ pos 16777216)
  count_far_fits h = rw (far_is h) (record { sfits = omega arith })

  pub count_far : 8388608 ≤ x → to_z w32 (of_z w32 (to_z w32 x -ℤ pos 16777216)) ≡ branch_words w
  count_far h = to_z-of_z (count_far_fits h) ∙ far_is h ∙ rw is (sym (words_far w (omega arith)))

-- z is the count
module _ (w : ℕ) (z : ℤ) (fits : SFits w32 z) (is : z ≡ branch_words w) where
  four : pos 4 *ℤ to_z w32 (of_z w32 z) ≡ branch_distance w
  unfolding branch_distance
  four = ap (λ (y : ℤ). pos 4 *ℤ y) (to_z-of_z fits ∙ is)

  pub four_counts_fit : SFits w32 (pos 4 *ℤ to_z w32 (of_z w32 z))
  four_counts_fit = rw four (distance_fits w)

  pub four_counts : to_z w32 (of_z w32 (pos 4 *ℤ to_z w32 (of_z w32 z))) ≡ branch_distance w
  four_counts = to_z-of_z four_counts_fit ∙ four

-- a distance's bits, added to an address
bits_added : (a : ℕ) (d : ℤ) → SFits w32 d → (a + of_z w32 d) % 4294967296 ≡ in_32_bits (pos a +ℤ d)
bits_added a d fits = by d fits ∙ sym (sum_in_32_bits a d)
  where
    by : (z : ℤ) → SFits w32 z → (a + of_z w32 z) % 4294967296 ≡ (a + in_32_bits z) % 4294967296
    by (pos n) f = omega arith
    by (negsuc n) f = let k : n % 4294967296 ≡ n = omega (arith, f.sfits) in omega (arith, f.sfits)

-- o is where the distance d counts from
pub dest_is : (w a o : ℕ) (d : ℤ) (r : ℕ) → o ≡ if (is_absolute w) 0 a → d ≡ branch_distance w → r ≡ (o + of_z w32 (to_z w32 (of_z w32 d))) % 4294967296 → r ≡ branch_dest w a
unfolding branch_dest
dest_is w a o d r eo ed e =
    let f : SFits w32 d = rw ed (distance_fits w) in
    let same : to_z w32 (of_z w32 d) ≡ d = to_z-of_z f in
    let r_is : r ≡ in_32_bits (pos o +ℤ d) = (rw same at e) ∙ bits_added o d f in r_is ∙ rw (eo, ed)
