-- What the tests of a table ensure at each return.
use Rattle.std.proofs.Common.{◌≡◌, ℕ, suc, ◌+◌, ◌*◌, ◌/◌, ◌%◌, ◌<◌, ◌≤◌, max, Bool, true, false, ◌&&◌, ltb, leb, List, [], ◌∷◌, length, get_or, drop, sym, refl, ap, ◌∙◌, add-one, arith, drop_of_length-le, drop-cons, le-ltb, lt-ltb, eq-eqb, ne_eqb, le-leb}
use lib.Bits.{bit_or, or_step}
use native.Mathlib.Decide.{dec_lt, ℕ_discrete as dec_eq}
use borrow.Author.Tests.{lt-leb}
use Rattle.rules.specs.Blocks.{Block, block, is_block, starts_above, is_table}
use Rattle.rules.proofs.Blocks.{none, and_right}
use Rattle.blocks.specs.Table.{rows}
use Rattle.marks.specs.Marks.{starts_from, goes_on}
use Rattle.blocks.proofs.Rows.{length_rows, row_at}

module _ (s e : ℕ) where
  pub no_block_start : (s % 4 ≡ 0 → ⊥) → false ≡ is_block (block s e)
  no_block_start h = sym (rw (ne_eqb (s % 4) 0 h))

  module _ (aligned : s % 4 ≡ 0) where
    pub no_block_end : (e % 4 ≡ 0 → ⊥) → false ≡ is_block (block s e)
    no_block_end h = sym (rw (eq-eqb (s % 4) 0 aligned, ne_eqb (e % 4) 0 h))

    pub open_block : e % 4 ≡ 0 → e ≡ 0 → true ≡ is_block (block s e)
    open_block h z = sym (rw (eq-eqb (s % 4) 0 aligned, eq-eqb (e % 4) 0 h, eq-eqb e 0 z))

    pub closed_block : e % 4 ≡ 0 → (e ≡ 0 → ⊥) → ltb s e ≡ is_block (block s e)
    closed_block h z = sym (rw (eq-eqb (s % 4) 0 aligned, eq-eqb (e % 4) 0 h, ne_eqb e 0 z))

-- the two lowest bits of both, joined
or_four : (a b : ℕ) → bit_or a b % 4 ≡ 2 * max (a / 2 % 2) (b / 2 % 2) + max (a % 2) (b % 2)
or_four a b = omega (arith, or_step a b, or_step (a / 2) (b / 2))

two_bits : (a : ℕ) → a % 4 ≡ 2 * (a / 2 % 2) + a % 2
two_bits a = omega arith

-- joined bits are clear where those of both are
clear_both : (p q u v : ℕ) → 2 * max p q + max u v ≡ 0 → (2 * p + u ≡ 0) × (2 * q + v ≡ 0)
clear_both p q u v h = (omega arith, omega arith)

both_clear : (p q u v : ℕ) → 2 * p + u ≡ 0 → 2 * q + v ≡ 0 → 2 * max p q + max u v ≡ 0
both_clear p q u v h k = omega arith

aligned_both : (a b : ℕ) → bit_or a b % 4 ≡ 0 → (a % 4 ≡ 0) × (b % 4 ≡ 0)
aligned_both a b h =
    let c = clear_both (a / 2 % 2) (b / 2 % 2) (a % 2) (b % 2) (sym (or_four a b) ∙ h) in (two_bits a ∙ c.0, two_bits b ∙ c.1)

both_aligned : (a b : ℕ) → a % 4 ≡ 0 → b % 4 ≡ 0 → bit_or a b % 4 ≡ 0
both_aligned a b h k = or_four a b ∙ both_clear (a / 2 % 2) (b / 2 % 2) (a % 2) (b % 2) (sym (two_bits a) ∙ h) (sym (two_bits b) ∙ k)

-- m is one less than the end, or the highest number
module _ (s e : ℕ) where
  pub unaligned_block : (bit_or s e % 4 ≡ 0 → ⊥) → false ≡ is_block (block s e)
  unaligned_block n = by (dec_eq (s % 4) 0)
    where
      by : Dec (s % 4 ≡ 0) → false ≡ is_block (block s e)
      by (yes h) = no_block_end s e h (λ k. n (both_aligned s e h k))
      by (no h) = no_block_start s e h

  pub aligned_block : (m : ℕ) → s < 18446744073709551616 → m < 18446744073709551616 → (m + 1) % 18446744073709551616 ≡ e → bit_or s e % 4 ≡ 0 → leb s m ≡ is_block (block s e)
  aligned_block m hs hm back h = by (dec_eq e 0)
    where
      a : s % 4 ≡ 0
      a = (aligned_both s e h).0

      b : e % 4 ≡ 0
      b = (aligned_both s e h).1

      by : Dec (e ≡ 0) → leb s m ≡ is_block (block s e)
      by (yes z) = le-leb s m (omega arith) ∙ open_block s e a b z
      by (no z) = let k : m + 1 ≡ e = omega arith in same k ∙ closed_block s e a b z
        where
          same : m + 1 ≡ e → leb s m ≡ ltb s e
          same k = go (dec_lt s e)
            where
              go : Dec (s < e) → leb s m ≡ ltb s e
              go (yes l) = le-leb s m (omega arith) ∙ sym (lt-ltb s e l)
              go (no l) = lt-leb s m (omega arith) ∙ sym (le-ltb s e (omega arith))

pub above_from : (k : ℕ) (l : List Block) → starts_above k l ≡ starts_from (k + 1) l
above_from k [] = refl
above_from k (r ∷ l) = by (dec_lt k r.start)
  where
    by : Dec (k < r.start) → ltb k r.start ≡ leb (k + 1) r.start
    by (yes h) = lt-ltb k r.start h ∙ sym (le-leb (k + 1) r.start (omega arith))
    by (no h) = le-ltb k r.start (omega arith) ∙ sym (lt-leb (k + 1) r.start (omega arith))

pub table_starts : (bs : List Block) → is_table bs ≡ goes_on 0 bs
table_starts [] = refl
table_starts (r ∷ l) = rw (le-leb 0 r.start (omega arith)) refl

module _ (n i b : ℕ) (ss es : List ℕ) (hs : n ≤ length ss) (he : n ≤ length es) where
  long : length (rows n ss es) ≡ n
  long = length_rows n ss es hs he

  pub rest_none : n ≤ i → true ≡ goes_on b (drop i (rows n ss es))
  rest_none h = rw (drop_of_length-le (rows n ss es) {i = i} (omega (arith, long)))

  -- at index i
  module _ (h : i < n) where
    here : drop i (rows n ss es) ≡ block (get_or ss i 0) (get_or es i 0) ∷ drop (suc i) (rows n ss es)
    here = drop-cons (rows n ss es) i none (omega (arith, long)) ∙ rw (row_at n ss es hs he i h) refl

    split : goes_on b (drop i (rows n ss es)) ≡ (leb b (get_or ss i 0) && (is_block (block (get_or ss i 0) (get_or es i 0)) && starts_above (get_or ss i 0) (drop (suc i) (rows n ss es)) && is_table (drop (suc i) (rows n ss es))))
    split = rw here refl

    pub rest_low : get_or ss i 0 < b → false ≡ goes_on b (drop i (rows n ss es))
    rest_low l = sym (split ∙ rw (lt-leb b (get_or ss i 0) l))

    pub rest_last : (x : Bool) → x ≡ is_block (block (get_or ss i 0) (get_or es i 0)) → b ≤ get_or ss i 0 → n ≤ i + 1 → x ≡ goes_on b (drop i (rows n ss es))
    rest_last x e l m = sym (split ∙ rw (le-leb b (get_or ss i 0) l, drop_of_length-le (rows n ss es) {i = suc i} (omega (arith, long)), ← e) (alone x))
      where
        alone : (y : Bool) → (y && true && true) ≡ y
        alone true = refl
        alone false = refl

-- two rows alone: x and y are whether they are blocks
module _ (b s e t f : ℕ) where
  pub pair_low : s < b → false ≡ goes_on b (block s e ∷ block t f ∷ [])
  pair_low l = sym (rw (lt-leb b s l))

  module _ (low : b ≤ s) where
    pub pair_falls : t ≤ s → false ≡ goes_on b (block s e ∷ block t f ∷ [])
    pair_falls h = sym (rw (le-leb b s low, le-ltb s t h) (by (is_block (block s e)) (is_block (block t f) && true && true)))
      where
        by : (x y : Bool) → (x && false && y) ≡ false
        by true y = refl
        by false y = refl

    pub pair_blocks : (x y : Bool) → s < t → x ≡ is_block (block s e) → y ≡ is_block (block t f) → (x && y) ≡ goes_on b (block s e ∷ block t f ∷ [])
    pair_blocks x y h ex ey = sym (rw (le-leb b s low, lt-ltb s t h, ← ex, ← ey) (by x y))
      where
        by : (x y : Bool) → (x && true && (y && true && true)) ≡ (x && y)
        by true true = refl
        by true false = refl
        by false y = refl

pub pair_fits : (x y : Bool) (t : ℕ) → (y ≡ true → t + 1 < 18446744073709551616) → (x && y) ≡ true → t + 1 < 18446744073709551616
pair_fits x y t k f = k (and_right x y f)

-- two rows, and those after them
pair_on : (b : ℕ) (p q : Block) (l : List Block) → goes_on b (p ∷ q ∷ l) ≡ (goes_on b (p ∷ q ∷ []) && goes_on (q.start + 1) l)
pair_on b p q l = rw (above_from q.start l) (by (leb b p.start) (is_block p) (ltb p.start q.start) (is_block q) (starts_from (q.start + 1) l) (is_table l))
  where
    by : (a x y z s t : Bool) → (a && (x && y && (z && s && t))) ≡ ((a && (x && y && (z && true && true))) && (s && t))
    by true true true true s t = refl
    by true true true false s t = refl
    by true true false z s t = refl
    by true false y z s t = refl
    by false x y z s t = refl

-- the rows at index i and at the next, j, where the table is one if it goes on so from i; r is what was said of the two
module _ (n i j b : ℕ) (r : Bool) (ss es : List ℕ) (hs : n ≤ length ss) (he : n ≤ length es) (at : j ≡ i + 1) (h : j < n) (so_far : is_table (rows n ss es) ≡ goes_on b (drop i (rows n ss es))) (is : r ≡ goes_on b (block (get_or ss i 0) (get_or es i 0) ∷ block (get_or ss j 0) (get_or es j 0) ∷ [])) where
  whole : is_table (rows n ss es) ≡ (r && goes_on (get_or ss j 0 + 1) (drop (suc j) (rows n ss es)))
  whole =
      let k : suc i ≡ j = omega arith in
      let two : drop i (rows n ss es) ≡ block (get_or ss i 0) (get_or es i 0) ∷ block (get_or ss j 0) (get_or es j 0) ∷ drop (suc j) (rows n ss es) =
      here n i b ss es hs he (omega arith) ∙ ap (λ (l : List Block). block (get_or ss i 0) (get_or es i 0) ∷ l) (ap (λ (m : ℕ). drop m (rows n ss es)) k ∙ here n j b ss es hs he h) in
      so_far ∙ ap (goes_on b) two ∙ pair_on b (block (get_or ss i 0) (get_or es i 0)) (block (get_or ss j 0) (get_or es j 0)) (drop (suc j) (rows n ss es)) ∙ ap (λ (x : Bool). x && goes_on (get_or ss j 0 + 1) (drop (suc j) (rows n ss es))) (sym is)

  pub pair_fails : r ≡ false → false ≡ is_table (rows n ss es)
  pair_fails f = sym (whole ∙ rw f)

  pub pair_next : r ≡ true → is_table (rows n ss es) ≡ goes_on (get_or ss j 0 + 1) (drop (j + 1) (rows n ss es))
  pair_next f = whole ∙ rw (f, add-one j)

-- one more than a multiple of 4 fits
pub aligned_fits : (s e : ℕ) → bit_or s e % 4 ≡ 0 → s < 18446744073709551616 → s + 1 < 18446744073709551616
aligned_fits s e h below = let a : s % 4 ≡ 0 = (aligned_both s e h).0 in omega arith
