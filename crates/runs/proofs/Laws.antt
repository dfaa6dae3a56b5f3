-- Laws of paste: what a loop that copies keeps, upwards and downwards.
use mathlib.Core.Path.{◌≡◌, refl, sym, ap, ap₂, ◌∙◌}
use mathlib.Core.List.{List, [], ◌∷◌, ◌++◌, append_assoc, append-nil}
use Prim.Native.Nat.{ℕ, zero, suc, ◌+◌, ◌-◌, ◌<◌, ◌≤◌}
use native.Mathlib.Nat.{add-zero, add-suc, suc-add, zero-add}
use native.Mathlib.Numerals.{add-one}
use native.Mathlib.Omega.{arith}
use lib.ListN.{length, take, drop, get_or, set, replicate, length-set, length-drop, length-replicate, get_or-replicate, take-append-drop, get_or-append}
use lib.Seq.{take-add, paste, paste-suc, paste-zero, drop-paste, slice, slice_empty, slice-cons, length-take-le, take-append-le, take-take, get_or-drop, get_or-take, take-suc, take_all, take-nil, append_snoc, set_at, drop_at}
use Rattle.runs.specs.Runs.{Fits, spliced}

-- what stands after the part already pasted is as it was
pub paste_after : (d : List ℕ) (at : ℕ) (s : List ℕ) (n j : ℕ) → at + n ≤ j → at ≤ length d → n ≤ length s → get_or (paste d at s n) j 0 ≡ get_or d j 0
paste_after d at s n j h hd hs =
    let e : (at + n) + (j - (at + n)) ≡ j = omega arith in
    ap (λ (i : ℕ). get_or (paste d at s n) i 0) (sym e)
    ∙ sym (get_or-drop (at + n) (paste d at s n) (j - (at + n)) 0)
    ∙ ap (λ (l : List ℕ). get_or l (j - (at + n)) 0) (drop-paste d at s n hd hs)
    ∙ get_or-drop (at + n) d (j - (at + n)) 0
    ∙ ap (λ (i : ℕ). get_or d i 0) e

-- a list pasted over itself
pub paste_self : (d : List ℕ) (src dst n : ℕ) → src ≡ dst → d ≡ paste d dst (drop src d) n
paste_self d src dst n e = rw e (sym (take-append-drop (dst + n) d) ∙ ap (λ (l : List ℕ). l ++ drop (dst + n) d) (take-add dst n d))

-- a loop that copies upwards, at k
pub record Copied (d : List ℕ) (at : ℕ) (s : List ℕ) (k : ℕ) (xs : List ℕ) : Type 0 where
  pub same : xs ≡ paste d at s k
  pub size : length xs ≡ length d

pub copied_start : (d : List ℕ) (at : ℕ) (s : List ℕ) → Copied d at s 0 d
copied_start d at s = record { same = paste-zero d at s; size = refl }

pub copied_next : (d : List ℕ) (at : ℕ) (s : List ℕ) (k : ℕ) (xs : List ℕ) (v : ℕ) → at + k < length d → k < length s → v ≡ get_or s k 0 → Copied d at s k xs → Copied d at s (k + 1) (set xs (at + k) v)
copied_next d at s k xs v hd hs e m =
    record {
      same = ap₂ (λ (l : List ℕ) (w : ℕ). set l (at + k) w) m.same e ∙ paste-suc d at s k 0 hd hs ∙ ap (λ (i : ℕ). paste d at s i) (sym (add-one k));
      size = length-set xs (at + k) v ∙ m.size;
    }

-- one value again and again
pub filled_next : (d : List ℕ) (at v n k : ℕ) (xs : List ℕ) → at + n ≤ length d → k < n → Copied d at (replicate n v) k xs → Copied d at (replicate n v) (k + 1) (set xs (at + k) v)
filled_next d at v n k xs room lt m = copied_next d at (replicate n v) k xs v (omega arith) (omega (arith, length-replicate {A = ℕ} n v)) (sym (get_or-replicate n k v 0 lt)) m

-- within one list, downwards
pub lowered_next : (d : List ℕ) (src dst k n : ℕ) (xs : List ℕ) → dst ≤ src → src + n ≤ length d → k < n → Copied d dst (drop src d) k xs → Copied d dst (drop src d) (k + 1) (set xs (dst + k) (get_or xs (src + k) 0))
lowered_next d src dst k n xs le room lt m =
    let l : length (drop src d) ≡ length d - src = length-drop src d in
    copied_next d dst (drop src d) k xs (get_or xs (src + k) 0) (omega arith) (omega arith)
    (ap (λ (l : List ℕ). get_or l (src + k) 0) m.same ∙ paste_after d dst (drop src d) k (src + k) (omega arith) (omega arith) (omega arith) ∙ sym (get_or-drop src d k 0)) m

-- a loop that moves up, at k: those from k on are moved
pub record Raised (d : List ℕ) (src dst n k : ℕ) (xs : List ℕ) : Type 0 where
  pub same : xs ≡ take (dst + k) d ++ slice (src + k) (src + n) d ++ drop (dst + n) d
  pub size : length xs ≡ length d

pub raised_start : (d : List ℕ) (src dst n : ℕ) → Raised d src dst n n d
raised_start d src dst n = record { same = rw (slice_empty (src + n) d, append-nil (take (dst + n) d)) (sym (take-append-drop (dst + n) d)); size = refl }

module _ (d : List ℕ) (src dst n j : ℕ) (xs : List ℕ) (le : src ≤ dst) (room : dst + n ≤ length d) (lt : j < n) (m : Raised d src dst n (suc j) xs) where
  P : List ℕ
  P = take (dst + j) d

  S : List ℕ
  S = slice (suc (src + j)) (src + n) d

  T : List ℕ
  T = drop (dst + n) d

  form : xs ≡ P ++ (get_or d (dst + j) 0 ∷ (S ++ T))
  unfolding P S T
  form =
      m.same
      ∙ rw (add-suc dst j, add-suc src j, take-suc d (dst + j) 0 (omega arith), append_snoc P (get_or d (dst + j) 0) S) (append_assoc P (get_or d (dst + j) 0 ∷ S) T)

  read : get_or xs (src + j) 0 ≡ get_or d (src + j) 0
  read =
      let l : length (take (dst + suc j) d) ≡ dst + suc j = length-take-le (dst + suc j) d (omega arith) in
      ap (λ (l : List ℕ). get_or l (src + j) 0) (m.same ∙ append_assoc (take (dst + suc j) d) (slice (src + suc j) (src + n) d) (drop (dst + n) d))
      ∙ get_or-append (take (dst + suc j) d) (slice (src + suc j) (src + n) d ++ drop (dst + n) d) 0 (src + j) (omega arith)
      ∙ get_or-take (dst + suc j) d (src + j) 0 (omega arith)

  pub raised_suc : Raised d src dst n j (set xs (dst + j) (get_or xs (src + j) 0))
  unfolding P S T
  raised_suc =
      record {
        same =
            ap₂ (λ (l : List ℕ) (v : ℕ). set l (dst + j) v) form read
            ∙ set_at P (get_or d (dst + j) 0) (S ++ T) (get_or d (src + j) 0) (dst + j) (length-take-le (dst + j) d (omega arith))
            ∙ sym (append_assoc P (get_or d (src + j) 0 ∷ S) T)
            ∙ ap (λ (l : List ℕ). P ++ l ++ T) (sym (slice-cons (src + j) (src + n) d 0 (omega arith) (omega arith)));
        size = length-set xs (dst + j) (get_or xs (src + j) 0) ∙ m.size;
      }

pub raised_next : (d : List ℕ) (src dst n k j : ℕ) (xs : List ℕ) → k ≡ suc j → src ≤ dst → dst + n ≤ length d → k ≤ n → Raised d src dst n k xs → Raised d src dst n j (set xs (dst + j) (get_or xs (src + j) 0))
raised_next d src dst n k j xs e le room lt m = raised_suc d src dst n j xs le room (omega arith) (rw e at m)

pub take_of_drop : (m n : ℕ) (l : List ℕ) → take m (drop n l) ≡ slice n (n + m) l
take_of_drop m zero l = rw (zero-add m)
take_of_drop m (suc n) [] = rw (suc-add n m) (take-nil m)
take_of_drop m (suc n) (x ∷ l) = rw (suc-add n m) (take_of_drop m n l)

pub raised_end : (d : List ℕ) (src dst n : ℕ) (xs : List ℕ) → Raised d src dst n 0 xs → Copied d dst (drop src d) n xs
raised_end d src dst n xs m =
    record {
      same = m.same ∙ rw (add-zero dst, add-zero src) (ap (λ (l : List ℕ). take dst d ++ l ++ drop (dst + n) d) (sym (take_of_drop n src d)));
      size = m.size;
    }

-- the part of a list before the pasted one, and from the pasted one on
pub take_below : (d : List ℕ) (at : ℕ) (s : List ℕ) (n k : ℕ) → k ≤ at → at ≤ length d → take k (paste d at s n) ≡ take k d
take_below d at s n k h hd =
    let l : length (take at d) ≡ at = length-take-le at d hd in
    ap (take k) (append_assoc (take at d) (take n s) (drop (at + n) d)) ∙ take-append-le k (take at d) (take n s ++ drop (at + n) d) (omega arith) ∙ take-take k at d h

pub drop_from : (d : List ℕ) (at : ℕ) (s : List ℕ) (n : ℕ) → at ≤ length d → drop at (paste d at s n) ≡ take n s ++ drop (at + n) d
drop_from d at s n hd = ap (drop at) (append_assoc (take at d) (take n s) (drop (at + n) d)) ∙ drop_at (take at d) (take n s ++ drop (at + n) d) at (length-take-le at d hd)

-- the rest moved, then the new run copied in
module _ (d : List ℕ) (total at until : ℕ) (new : List ℕ) (n dst rest : ℕ) (f : Fits d total at until n) (long : n ≤ length new)
    (ed : dst ≡ at + n) (er : rest ≡ total - until)
    (m1 : List ℕ) (e1 : m1 ≡ paste d dst (drop until d) rest) (m2 : List ℕ) (e2 : m2 ≡ paste m1 at new n) where
  moved : take at m1 ≡ take at d
  moved = ap (take at) e1 ∙ take_below d dst (drop until d) rest at (omega arith) (omega (arith, f.room))

  after : drop (at + n) m1 ≡ take rest (drop until d) ++ drop (dst + rest) d
  after = ap₂ (λ (i : ℕ) (l : List ℕ). drop i l) (sym ed) e1 ∙ drop_from d dst (drop until d) rest (omega (arith, f.room))

  pub splice_done : m2 ≡ spliced d total at until (take n new) ++ drop (dst + rest) d
  splice_done =
      let e : until + rest ≡ total = omega (arith, f.within) in
      e2
      ∙ ap₂ (λ (a b : List ℕ). a ++ take n new ++ b) moved after
      ∙ sym (append_assoc (take at d ++ take n new) (take rest (drop until d)) (drop (dst + rest) d))
      ∙ ap (λ (l : List ℕ). take at d ++ take n new ++ l ++ drop (dst + rest) d) (take_of_drop rest until d ∙ ap (λ (j : ℕ). slice until j d) e)

pub fill_done : (d : List ℕ) (total at until v n dst rest : ℕ) → Fits d total at until n → dst ≡ at + n → rest ≡ total - until → (m1 : List ℕ) → m1 ≡ paste d dst (drop until d) rest → (m2 : List ℕ) → m2 ≡ paste m1 at (replicate n v) n → m2 ≡ spliced d total at until (replicate n v) ++ drop (dst + rest) d
fill_done d total at until v n dst rest f ed er m1 e1 m2 e2 =
    let long : length (replicate n v) ≡ n = length-replicate n v in
    let same : take n (replicate n v) ≡ replicate n v = take_all n (replicate n v) (omega arith) in
    rw same at (splice_done d total at until (replicate n v) n dst rest f (omega arith) ed er m1 e1 m2 e2)
