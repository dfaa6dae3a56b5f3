-- Numbers put behind the first n, one row after another, and what comes of adding a row.
use mathlib.Core.Path.{◌≡◌, refl, ap, ◌∙◌}
use mathlib.Core.List.{List, [], ◌∷◌, ◌++◌, append_assoc}
use mathlib.Core.Bool.{true, false}
use Rattle.std.specs.Prelude.{Some}
use Prim.Native.Nat.{ℕ, ◌+◌, ◌-◌, ◌<◌, ◌≤◌}
use native.Mathlib.Numerals.{add-one}
use native.Mathlib.Omega.{arith}
use lib.ListN.{length, take, set, length-append, length-drop, length-set}
use lib.Seq.{take-suc-set, length-take-le}
use borrow.Rule.Slice.PartMut.{put_mid}
use Rattle.std.proofs.lemmas.Slice.{take-put_mid}
use borrow.Author.Tests.{lt-ltb, le-ltb, le-leb, lt-leb}
use Rattle.rules.specs.Choice.{if}
use Rattle.reading.specs.Rows.{add_row, counted, Put, Added}

pub put_one : (n v : ℕ) (xs : List ℕ) → n < length xs → Put n (v ∷ []) xs (set xs n v)
put_one n v xs h = record { size = length-set xs n v; same = rw (add-one n) (take-suc-set xs n v h) }

-- one row behind another
pub put_both : (n m : ℕ) (r s xs ys zs : List ℕ) → m ≡ n + length r → Put n r xs ys → Put m s ys zs → Put n (r ++ s) xs zs
put_both n m r s xs ys zs em p q =
    let h : length (r ++ s) ≡ length r + length s = length-append r s in
    let e : n + length (r ++ s) ≡ m + length s = omega arith in
    record {
      size = q.size ∙ p.size;
      same =
          ap (λ (i : ℕ). take i zs) e
          ∙ q.same
          ∙ ap (λ (l : List ℕ). l ++ s) (ap (λ (i : ℕ). take i ys) em ∙ p.same)
          ∙ append_assoc (take n xs) r s;
    }

-- a row, all at once
pub put_row : (n k : ℕ) (row xs ys : List ℕ) → ys ≡ row → k ≡ length row → n + k ≤ length xs → Put n row xs (put_mid n k xs ys)
put_row n k row xs ys w e h =
    rw w (record {
      size = simp (length-append, length-drop) (omega (arith, e, length-take-le n xs (omega arith)));
      same = take-put_mid n k xs row (n + length row) refl (omega arith);
    })

module _ (limit n : ℕ) (row xs : List ℕ) (room : n ≤ length xs) where
  long : length (take n xs) ≡ n
  long = length-take-le n xs room

  pub add_kept : limit < n → Added limit n row xs xs record { ok = true; count = n }
  unfolding add_row counted if
  add_kept h = record { size = refl; within = room; same = rw long (rw (lt-ltb limit n h) refl) }

  module _ (w : ℕ) (ew : w ≡ length row) (le : n ≤ limit) where
    pub add_full : length xs - n < w → Added limit n row xs xs record { ok = false; count = n }
    unfolding add_row counted if
    add_full h =
        record {
          size = refl;
          within = room;
          same = rw long (rw (le-ltb limit n le) (rw (lt-leb (n + length row) (length xs) (omega arith)) refl));
        }

    pub add_put : w ≤ length xs - n → (ys : List ℕ) → Put n row xs ys → Added limit n row xs ys record { ok = true; count = n + w }
    unfolding add_row counted if
    add_put h ys p =
        record {
          size = p.size;
          within = omega (arith, p.size);
          same =
              rw long
              (rw (le-ltb limit n le)
              (rw (le-leb (n + length row) (length xs) (omega arith))
              (ap (λ (l : List ℕ). Some l) (ap (λ (i : ℕ). take (n + i) ys) ew ∙ p.same))));
        }
