-- Parts of lists.
use Rattle.std.proofs.Common.{◌≡◌, ℕ, ◌+◌, ◌-◌, ◌≤◌, List, ◌++◌, arith, length, take, drop, min, sym, ap, ◌∙◌, length-take-le}
use Rattle.std.proofs.Math.Nat.{min-le_right}
use Rattle.std.proofs.lemmas.List.{drop-take, drop_min, take_min}
use lib.Seq.{take-add, take-take}

-- the front, and the first n behind it
pub take_joined : (done n : ℕ) (xs : List ℕ) → n ≤ length xs - done → take done xs ++ take n (take (length xs - done) (drop done xs)) ≡ take (done + n) xs
take_joined done n xs fits =
    ap (λ l. take done xs ++ l) (take-take n (length xs - done) (drop done xs) fits) ∙ sym (take-add done n xs)

-- from a place up to another, as far as there is anything
pub part : {A : Type 0} (from until e a : ℕ) (xs : List A) → e ≡ min until (length xs) → a ≡ min from e → take (e - a) (drop a xs) ≡ drop from (take until xs)
part from until e a xs end begin =
    let within : e ≤ length xs = rw end (min-le_right until (length xs)) in
    let order : a ≤ e = rw begin (min-le_right from e) in
    let size : length (take e xs) ≡ e = length-take-le e xs within in
    let split : a + (e - a) ≡ e = omega arith in
    let first : a ≡ min from (length (take e xs)) = begin ∙ ap (min from) (sym size) in
    sym (drop-take a (e - a) xs) ∙ ap (λ k. drop a (take k xs)) split ∙ ap (λ k. drop k (take e xs)) first ∙ drop_min from (take e xs)
    ∙ ap (λ k. drop from (take k xs)) end ∙ ap (drop from) (take_min until xs)
