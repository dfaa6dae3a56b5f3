-- The last row of a list that stands in the first numbers of a lent one.
use mathlib.Core.Path.{◌≡◌, refl, sym, ap, ap₂, ◌∙◌}
use mathlib.Core.List.{List, [], ◌∷◌}
use mathlib.Core.Bool.{true, false}
use Rattle.std.specs.Prelude.{None, Some}
use Prim.Native.Nat.{ℕ, ◌+◌, ◌-◌, ◌/◌, ◌%◌, ◌<◌, ◌≤◌}
use native.Mathlib.Omega.{arith}
use lib.Dec.{leb, eqb}
use lib.ListN.{length, take, get_or, set, length-set}
use lib.Seq.{length-take-le, get_or-take, take-set-lt}
use borrow.Author.Tests.{leb-true, le-leb, lt-leb, eq-eqb, ne_eqb}
use Rattle.rules.proofs.Tests.{and_left}
use Rattle.rules.specs.Choice.{if}
use Rattle.reading.specs.LastRows.{back, set_back, Now, last_kind, last_is, PutWord, add_word, both, WordAdded, with_branch, told, Told}
use Rattle.reading.specs.Rows.{Put}
use Rattle.reading.proofs.Putting.{put_one, put_both}

module _ (n : ℕ) (xs : List ℕ) (room : n ≤ length xs) where
  pub long : length (take n xs) ≡ n
  long = length-take-le n xs room

  pub back_is : (k : ℕ) → 1 ≤ k → k ≤ n → get_or xs (n - k) 0 ≡ back (take n xs) k
  unfolding back
  back_is k lo hi = rw long (sym (get_or-take n xs (n - k) 0 (omega arith)))

  pub set_is : (k v : ℕ) → 1 ≤ k → k ≤ n → Now n xs (set xs (n - k) v) (set_back (take n xs) k v)
  unfolding set_back
  set_is k v lo hi =
      record { size = length-set xs (n - k) v; same = take-set-lt n xs (n - k) v (omega arith) ∙ ap (λ (m : ℕ). set (take n xs) (m - k) v) (sym long) }

  -- ---- the last section

  pub no_section : n < 4 → 0 ≡ last_kind (take n xs)
  unfolding last_kind if
  no_section h = rw long (rw (lt-leb 4 n h) refl)

  module _ (k : ℕ) (ek : k ≡ back (take n xs) 4) (h : 4 ≤ n) where
    pub code_section : k ≡ 1 → 1 ≡ last_kind (take n xs)
    unfolding last_kind if
    code_section e = rw long (rw (le-leb 4 n h) (rw (sym ek) (rw (eq-eqb k 1 e) refl)))

    pub other_section : (k ≡ 1 → ⊥) → 2 ≡ last_kind (take n xs)
    unfolding last_kind if
    other_section e = rw long (rw (le-leb 4 n h) (rw (sym ek) (rw (ne_eqb k 1 e) refl)))

  -- ---- the last code word

  pub no_word : (kind : ℕ) → n < 6 → false ≡ last_is kind (take n xs)
  unfolding last_is
  no_word kind h = rw long (rw (lt-leb 6 n h) refl)

  pub word_kind : (kind k : ℕ) → 6 ≤ n → k ≡ back (take n xs) 6 → eqb k kind ≡ last_is kind (take n xs)
  unfolding last_is
  word_kind kind k h e = rw long (rw (le-leb 6 n h) (rw (sym e) refl))

  pub word_there : (kind : ℕ) → true ≡ last_is kind (take n xs) → 6 ≤ n
  unfolding last_is
  word_there kind e = rw long at (leb-true 6 (length (take n xs)) (and_left (leb 6 (length (take n xs))) _ (sym e)))

  module _ (kind : ℕ) (l : List ℕ) where
    pub told_none : false ≡ last_is kind (take n xs) → Told n xs xs false (if (last_is kind (take n xs)) (Some l) None)
    unfolding told if
    told_none e = record { size = refl; same = rw (sym e) refl }

    pub told_now : (ys : List ℕ) → true ≡ last_is kind (take n xs) → Now n xs ys l → Told n xs ys true (if (last_is kind (take n xs)) (Some l) None)
    unfolding told if
    told_now ys e w = record { size = w.size; same = rw (sym e) (ap (λ (m : List ℕ). Some m) w.same) }

  -- a branch more
  module _ (way a : ℕ) where
    module _ (k : ℕ) (ek : k ≡ back (take n xs) 4) where
      pub first_branch : (ys : List ℕ) → k ≡ 0 → Now n xs ys (set_back (set_back (take n xs) 4 way) 3 a) → Now n xs ys (with_branch way a (take n xs))
      unfolding if
      first_branch ys z w = record { size = w.size; same = w.same ∙ rw (sym ek) (rw (eq-eqb k 0 z) refl) }

      module _ (nz : k ≡ 0 → ⊥) (m : ℕ) (em : m ≡ back (take n xs) 2) where
        pub second_branch : (ys : List ℕ) → m ≡ 0 → Now n xs ys (set_back (set_back (take n xs) 2 way) 1 a) → Now n xs ys (with_branch way a (take n xs))
        unfolding if
        second_branch ys z w =
            record { size = w.size; same = w.same ∙ rw (sym ek) (rw (ne_eqb k 0 nz) (rw (sym em) (rw (eq-eqb m 0 z) refl))) }

        pub third_branch : (ys : List ℕ) → (m ≡ 0 → ⊥) → Now n xs ys (set_back (take n xs) 2 4) → Now n xs ys (with_branch way a (take n xs))
        unfolding if
        third_branch ys z w =
            record { size = w.size; same = w.same ∙ rw (sym ek) (rw (ne_eqb k 0 nz) (rw (sym em) (rw (ne_eqb m 0 z) refl))) }

-- two numbers
pub pair_is : (n k j v w : ℕ) (xs ys zs : List ℕ) → Now n xs ys (set_back (take n xs) k v) → Now n ys zs (set_back (take n ys) j w) → Now n xs zs (set_back (set_back (take n xs) k v) j w)
pair_is n k j v w xs ys zs p q = record { size = q.size ∙ p.size; same = q.same ∙ ap (λ (l : List ℕ). set_back l j w) p.same }

pub pair_set : (n : ℕ) (xs : List ℕ) → n ≤ length xs → (k j v w : ℕ) → 1 ≤ k → k ≤ n → 1 ≤ j → j ≤ n → Now n xs (set (set xs (n - k) v) (n - j) w) (set_back (set_back (take n xs) k v) j w)
pair_set n xs room k j v w lo hi lo' hi' =
    let h : length (set xs (n - k) v) ≡ length xs = length-set xs (n - k) v in
    pair_is n k j v w xs _ _ (set_is n xs room k v lo hi) (set_is n (set xs (n - k) v) (omega arith) j w lo' hi')

-- ---- a word's bytes

pub four_bytes : (n w : ℕ) (xs : List ℕ) → n + 4 ≤ length xs → PutWord n w xs (set (set (set (set xs n (w / 0x100_0000)) (n + 1) (w / 0x1_0000 % 256)) (n + 2) (w / 256 % 256)) (n + 3) (w % 256))
four_bytes n w xs h =
    let a : ℕ = w / 0x100_0000 in
    let b : ℕ = w / 0x1_0000 % 256 in
    let c : ℕ = w / 256 % 256 in
    let d : ℕ = w % 256 in
    let x1 : List ℕ = set xs n a in
    let x2 : List ℕ = set x1 (n + 1) b in
    let x3 : List ℕ = set x2 (n + 2) c in
    let x4 : List ℕ = set x3 (n + 3) d in
    let p1 : Put n (a ∷ []) xs x1 = put_one n a xs (omega arith) in
    let p2 : Put (n + 1) (b ∷ []) x1 x2 = put_one (n + 1) b x1 (omega (arith, p1.size)) in
    let q2 : Put n (a ∷ b ∷ []) xs x2 = put_both n (n + 1) (a ∷ []) (b ∷ []) xs x1 x2 refl p1 p2 in
    let p3 : Put (n + 2) (c ∷ []) x2 x3 = put_one (n + 2) c x2 (omega (arith, q2.size)) in
    let q3 : Put n (a ∷ b ∷ c ∷ []) xs x3 = put_both n (n + 2) (a ∷ b ∷ []) (c ∷ []) xs x2 x3 refl q2 p3 in
    let p4 : Put (n + 3) (d ∷ []) x3 x4 = put_one (n + 3) d x3 (omega (arith, q3.size)) in
    let q4 : Put n (a ∷ b ∷ c ∷ d ∷ []) xs x4 = put_both n (n + 3) (a ∷ b ∷ c ∷ []) (d ∷ []) xs x3 x4 refl q3 p4 in
    record { size = q4.size; same = q4.same }

module _ (n m w g : ℕ) (s b : List ℕ) (rs : n ≤ length s) (rb : m ≤ length b) (eg : g ≡ back (take n s) 1) where
  pub word_large : 0xEFFF_FFFC < g → WordAdded n m w s s b b record { ok = false; count = m }
  unfolding add_word both if
  word_large h = record { sections = refl; bytes = refl; within = rb; same = rw (sym eg) (rw (lt-leb g 0xEFFF_FFFC h) refl) }

  module _ (small : g ≤ 0xEFFF_FFFC) where
    pub word_full : length b - m < 4 → WordAdded n m w s s b b record { ok = false; count = m }
    unfolding add_word both if
    word_full h =
        record {
          sections = refl;
          bytes = refl;
          within = rb;
          same = rw (sym eg) (rw (le-leb g 0xEFFF_FFFC small) (rw (long m b rb) (rw (lt-leb (m + 4) (length b) (omega arith)) refl)));
        }

    pub word_put : 4 ≤ length b - m → (s' b' : List ℕ) → PutWord m w b b' → Now n s s' (set_back (take n s) 1 (g + 4)) → WordAdded n m w s s' b b' record { ok = true; count = m + 4 }
    unfolding add_word both if
    word_put h s' b' p q =
        record {
          sections = q.size;
          bytes = p.size;
          within = omega (arith, p.size);
          same =
              rw (sym eg)
              (rw (le-leb g 0xEFFF_FFFC small)
              (rw (long m b rb)
              (rw (le-leb (m + 4) (length b) (omega arith)) (ap₂ (λ (x y : List ℕ). Some (x, y)) q.same p.same))));
        }

-- room for the later bytes
module _ (n w : ℕ) (xs : List ℕ) (h : n + 4 ≤ length xs) where
  pub room_2 : n + 1 < length (set xs n (w / 0x100_0000))
  room_2 = omega (arith, length-set xs n (w / 0x100_0000))

  pub room_3 : n + 2 < length (set (set xs n (w / 0x100_0000)) (n + 1) (w / 0x1_0000 % 256))
  room_3 = omega (arith, length-set xs n (w / 0x100_0000), length-set (set xs n (w / 0x100_0000)) (n + 1) (w / 0x1_0000 % 256))

  pub room_4 : n + 3 < length (set (set (set xs n (w / 0x100_0000)) (n + 1) (w / 0x1_0000 % 256)) (n + 2) (w / 256 % 256))
  room_4 =
      omega
      (arith, length-set xs n (w / 0x100_0000), length-set (set xs n (w / 0x100_0000)) (n + 1) (w / 0x1_0000 % 256), length-set (set (set xs n (w / 0x100_0000)) (n + 1) (w / 0x1_0000 % 256)) (n + 2) (w / 256 % 256))
