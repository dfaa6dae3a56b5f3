-- Where a sweep stands, as facts of lists.
use Prim.Native.Nat.{ℕ, suc, ◌+◌, ◌-◌, ◌≤◌, ◌<◌}
use mathlib.Core.Path.{◌≡◌, refl, sym, ◌∙◌, ap}
use mathlib.Core.List.{List, [], ◌∷◌, ◌++◌, append_assoc}
use native.Mathlib.Omega.{arith}
use native.Mathlib.Numerals.{add-one}
use lib.ListN.{length, take, drop, get_or, set, length-set, take-append-drop}
use lib.Seq.{drop-cons, drop-set-lt, take-suc-set}
use Rattle.records_blocks.specs.Sweep.{no_block, turned, after, swept}
use Rattle.records_blocks.specs.declared.Block.{Block}
use Rattle.records_blocks.specs.declared.Carry.{Carry}

-- i blocks are done, d is carried and zs is the list
pub record Reached (n : ℕ) (c : Carry) (ys : List Block) (i : ℕ) (d : Carry) (zs : List Block) : Type 0 where
  pub within : i ≤ n
  pub long : length zs ≡ length ys
  pub carried : after (n - i) i d (drop i zs) ≡ after n 0 c ys
  pub made : take i zs ++ swept (n - i) i d (drop i zs) ≡ swept n 0 c ys

module _ (n : ℕ) (c : Carry) (ys : List Block) (room : n ≤ length ys) where
  pub at_start : Reached n c ys 0 c ys
  at_start = let z : n - 0 ≡ n = omega arith in record { within = omega arith; long = refl; carried = rw z; made = rw z }

  module _ (i : ℕ) (d : Carry) (zs : List Block) (s : Reached n c ys i d zs) where
    pub inside : i < n → i < length zs
    inside l = omega (arith, s.long)

    pub step : i < n → Reached n c ys (i + 1) (turned d i (get_or zs i no_block)) (set zs i (turned d i (get_or zs i no_block)).out)
    step l =
        let k : i < length zs = inside l in
        let e : n - i ≡ suc (n - (i + 1)) = omega arith in
        let cons : drop i zs ≡ get_or zs i no_block ∷ drop (i + 1) zs = rw (add-one i) (drop-cons zs i no_block k) in
        let below : i < i + 1 = omega arith in
        let b : Block = (turned d i (get_or zs i no_block)).out in
        let same : drop (i + 1) (set zs i b) ≡ drop (i + 1) zs = drop-set-lt (i + 1) zs i b below in
        let front : take (i + 1) (set zs i b) ≡ take i zs ++ (b ∷ []) = rw (add-one i) (take-suc-set zs i b k) in
        record {
          within = omega arith;
          long = length-set zs i b ∙ s.long;
          carried = rw same (rw (e, cons) at s.carried);
          made = rw same (ap (λ (l : List Block). l ++ swept (n - (i + 1)) (i + 1) (turned d i (get_or zs i no_block)) (drop (i + 1) zs)) front
              ∙ (append_assoc (take i zs) (b ∷ []) (swept (n - (i + 1)) (i + 1) (turned d i (get_or zs i no_block)) (drop (i + 1) zs)) ∙ (rw (e, cons) at s.made)));
        }

    pub at_end : n ≤ i → (d ≡ after n 0 c ys) × (zs ≡ swept n 0 c ys)
    at_end l =
        let e : i ≡ n = omega (arith, s.within) in
        let z : n - i ≡ 0 = omega arith in
        (rw z at s.carried, sym (take-append-drop i zs) ∙ (rw z at s.made))
