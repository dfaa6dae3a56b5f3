-- A line that comes a number of times: half as often, that twice, and once more for an odd number.
use Rattle.std.proofs.Common.{◌≡◌, ℕ, suc, zero, ◌+◌, ◌*◌, ◌/◌, ◌%◌, ◌-◌, ◌≤◌, length, take, drop, length-take-le, length-drop, drop_at, List, ◌++◌, sym, ap, ◌∙◌, arith, append_assoc, append-nil, take-append-drop}
use Rattle.std.specs.List.{repeat}
use Rattle.std.proofs.Math.Nat.{mul-le-mul_left}
use Rattle.std.proofs.lemmas.List.{drop-take}
use Rattle.std.proofs.lemmas.List.Edits.{take-paste}
use lib.Seq.{paste, take-append-le, take-take}

repeat-add : {A : Type 0} (m n : ℕ) (xs : List A) → repeat (m + n) xs ≡ repeat m xs ++ repeat n xs
repeat-add zero n xs =
    let none : 0 + n ≡ n = omega arith in
    ap (λ k. repeat k xs) none
repeat-add (suc m) n xs =
    let one_more : suc m + n ≡ suc (m + n) = omega arith in
    ap (λ k. repeat k xs) one_more ∙ ap (λ l. xs ++ l) (repeat-add m n xs) ∙ sym (append_assoc xs (repeat m xs) (repeat n xs))

-- there is room for half of it
pub half_fits : (s w n room : ℕ) → s + w * n ≤ room → s + w * (n / 2) ≤ room
half_fits s w n room fits = omega (arith, mul-le-mul_left {m = n / 2} {n = n} w (omega arith))

-- there is room for that twice, and once more
pub twice_is : (s w n h : ℕ) → h ≡ s + w * (n / 2) → h + (h - s) ≡ s + w * (n / 2 + n / 2)
twice_is s w n h e = omega (arith, e)

pub halves : (n : ℕ) → n / 2 + n / 2 + n % 2 ≡ n
halves n = omega arith

-- what stands before the copy is as it was
pub front : {A : Type 0} (e at : ℕ) (d s : List A) (n : ℕ) → e ≤ at → at ≤ length d → take e (paste d at s n) ≡ take e d
front e at d s n before within =
    let long : e ≤ length (take at d) = omega (arith, length-take-le at d within) in
    ap (take e) (append_assoc (take at d) (take n s) (drop (at + n) d)) ∙ take-append-le e (take at d) _ long ∙ take-take e at d before

-- the line m times, and that copied behind it
pub doubled : {A : Type 0} (s h m : ℕ) (old d line : List A) → s ≤ h → h + (h - s) ≤ length d → s ≤ length old
    → take h d ≡ take s old ++ repeat m line → take (h + (h - s)) (paste d h (drop s d) (h - s)) ≡ take s old ++ repeat (m + m) line
doubled s h m old d line order fits within before =
    let split : s + (h - s) ≡ h = omega arith in
    let copied : take (h - s) (drop s d) ≡ repeat m line =
    sym (drop-take s (h - s) d) ∙ ap (λ k. drop s (take k d)) split ∙ ap (drop s) before ∙ drop_at (take s old) (repeat m line) s (length-take-le s old within) in
    take-paste d h (drop s d) (h - s) (omega arith) (omega (arith, length-drop s d)) ∙ ap (λ l. l ++ take (h - s) (drop s d)) before
    ∙ ap (λ l. (take s old ++ repeat m line) ++ l) copied ∙ append_assoc (take s old) (repeat m line) (repeat m line)
    ∙ ap (λ l. take s old ++ l) (sym (repeat-add m m line))

-- the line once more
pub one_more : {A : Type 0} (s e at : ℕ) (d : List A) → s ≤ e → e ≤ at → at + (e - s) ≤ length d
    → take (at + (e - s)) (paste d at (drop s d) (e - s)) ≡ take at d ++ repeat 1 (drop s (take e d))
one_more s e at d order before fits =
    let split : s + (e - s) ≡ e = omega arith in
    let copied : take (e - s) (drop s d) ≡ drop s (take e d) = sym (drop-take s (e - s) d) ∙ ap (λ k. drop s (take k d)) split in
    take-paste d at (drop s d) (e - s) (omega arith) (omega (arith, length-drop s d)) ∙ ap (λ l. take at d ++ l) (copied ∙ sym (append-nil (drop s (take e d))))

-- the line k times, and b times more
pub joined : {A : Type 0} (s k b n : ℕ) (old line xs : List A) → xs ≡ take s old ++ repeat k line → k + b ≡ n → xs ++ repeat b line ≡ take s old ++ repeat n line
joined s k b n old line xs so_far all =
    ap (λ l. l ++ repeat b line) so_far ∙ append_assoc (take s old) (repeat k line) (repeat b line) ∙ ap (λ l. take s old ++ l) (sym (repeat-add k b line))
    ∙ ap (λ m. take s old ++ repeat m line) all

-- that twice, and once more for an odd number
pub total_is : (s w n h : ℕ) → h ≡ s + w * (n / 2) → h + (h - s) + w * (n % 2) ≡ s + w * n
total_is s w n h e = omega (arith, twice_is s w n h e, ap (λ k. w * k) (halves n))

pub twice_fits : (s w n h room : ℕ) → h ≡ s + w * (n / 2) → s + w * n ≤ room → h + (h - s) ≤ room
twice_fits s w n h room e fits = omega (arith, twice_is s w n h e, mul-le-mul_left {m = n / 2 + n / 2} {n = n} w (omega arith))

-- the line itself is before its copies
pub beyond : (s e n h : ℕ) → s ≤ e → 1 ≤ n / 2 → h ≡ s + (e - s) * (n / 2) → e ≤ h
beyond s e n h order some is = omega (arith, is, mul-le-mul_left {m = 1} {n = n / 2} (e - s) some)

-- once
pub once : {A : Type 0} (s e : ℕ) (xs : List A) → s ≤ e → take e xs ≡ take s xs ++ repeat 1 (drop s (take e xs))
once s e xs order =
    sym (ap (λ l. take s xs ++ l) (append-nil (drop s (take e xs)))
    ∙ ap (λ l. l ++ drop s (take e xs)) (sym (take-take s e xs order)) ∙ take-append-drop s (take e xs))
