-- The words of bytes, as chunks, and of a part of them. Assumes nothing.
use Rattle.std.proofs.Common.{◌≡◌, ℕ, zero, suc, ◌-◌, ◌*◌, ◌/◌, ◌<◌, ◌≤◌, refl, sym, ap, ap₂, List, [], ◌∷◌, map, length, take, drop, min, arith}
use Rattle.std.specs.Simd.{first_chunks}
use Rattle.std.proofs.lemmas.List.{take_min, take_rest, drop_all}
use lib.Seq.{drop-nil}
use Rattle.obj_image.proofs.Rows.{by_less}
use Rattle.rules.specs.Bytes.{word_of, words_in}
use Rattle.jump_tables.specs.Readings.{number_in}

four : (i : ℕ) → suc i * 4 ≡ suc (suc (suc (suc (i * 4))))
four i = omega arith

next : (n : ℕ) → suc (suc (suc (suc n))) / 4 ≡ suc (n / 4)
next n = omega arith

pub words_drop : (i : ℕ) (l : List ℕ) → drop i (words_in l) ≡ words_in (drop (i * 4) l)
words_drop zero l = refl
words_drop (suc i) [] = sym (ap words_in (drop-nil (suc i * 4)))
words_drop (suc i) (a ∷ []) = rw (four i) (sym (ap words_in (drop-nil (suc (suc (suc (i * 4)))))))
words_drop (suc i) (a ∷ b ∷ []) = rw (four i) (sym (ap words_in (drop-nil (suc (suc (i * 4))))))
words_drop (suc i) (a ∷ b ∷ c ∷ []) = rw (four i) (sym (ap words_in (drop-nil (suc (i * 4)))))
words_drop (suc i) (a ∷ b ∷ c ∷ d ∷ l) = rw (four i) (words_drop i l)

words_take : (n : ℕ) (l : List ℕ) → take (n / 4) (words_in l) ≡ words_in (take n l)
words_take zero l = refl
words_take (suc zero) [] = refl
words_take (suc zero) (a ∷ l) = refl
words_take (suc (suc zero)) [] = refl
words_take (suc (suc zero)) (a ∷ []) = refl
words_take (suc (suc zero)) (a ∷ b ∷ l) = refl
words_take (suc (suc (suc zero))) [] = refl
words_take (suc (suc (suc zero))) (a ∷ []) = refl
words_take (suc (suc (suc zero))) (a ∷ b ∷ []) = refl
words_take (suc (suc (suc zero))) (a ∷ b ∷ c ∷ l) = refl
words_take (suc (suc (suc (suc n)))) [] = rw (next n) refl
words_take (suc (suc (suc (suc n)))) (a ∷ []) = rw (next n) refl
words_take (suc (suc (suc (suc n)))) (a ∷ b ∷ []) = rw (next n) refl
words_take (suc (suc (suc (suc n)))) (a ∷ b ∷ c ∷ []) = rw (next n) refl
words_take (suc (suc (suc (suc n)))) (a ∷ b ∷ c ∷ d ∷ l) = rw (next n) (ap (λ (ws : List ℕ). word_of a b c d ∷ ws) (words_take n l))

-- cut off at a length
pub words_cut : (m n : ℕ) (l : List ℕ) → m ≡ min n (length l) → words_in (take m l) ≡ take (n / 4) (words_in l)
words_cut m n l e = rw (e, take_min n l) (sym (words_take n l))

chunk_word : (a b c d : ℕ) → number_in (a ∷ b ∷ c ∷ d ∷ []) ≡ word_of a b c d
chunk_word a b c d = omega arith

pub words_chunked : (l : List ℕ) → map number_in (first_chunks 4 (length l / 4) l) ≡ words_in l
words_chunked [] = refl
words_chunked (a ∷ []) = refl
words_chunked (a ∷ b ∷ []) = refl
words_chunked (a ∷ b ∷ c ∷ []) = refl
words_chunked (a ∷ b ∷ c ∷ d ∷ l) = rw (next (length l)) (ap₂ (λ (x : ℕ) (xs : List ℕ). x ∷ xs) (chunk_word a b c d) (words_chunked l))

-- and from a word on
drop_min : (n : ℕ) (l : List ℕ) → drop (min n (length l)) l ≡ drop n l
drop_min n l = by_less n (length l) below above
  where
    below : n < length l → drop (min n (length l)) l ≡ drop n l
    below h = let e : min n (length l) ≡ n = omega arith in rw e refl

    above : length l ≤ n → drop (min n (length l)) l ≡ drop n l
    above h = let e : min n (length l) ≡ length l = omega arith in rw (e, drop_all n l h) (drop_all (length l) l (omega arith))

pub words_from : (m i : ℕ) (l : List ℕ) → m ≡ min (i * 4) (length l) → words_in (take (length l - m) (drop m l)) ≡ drop i (words_in l)
words_from m i l e = rw (take_rest l m, e, drop_min (i * 4) l) (sym (words_drop i l))
