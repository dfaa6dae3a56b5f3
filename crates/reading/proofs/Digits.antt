-- The number that digits stand for, one after the other.
use Rattle.std.proofs.Common.{◌≡◌, refl, ℕ, zero, suc, ◌+◌, ◌*◌, ◌<◌, ◌≤◌, arith, List, length, drop, get_or, drop-cons, drop_of_length-le, unwrap_or, Option, Some, None, IfSome}
use Rattle.reading.specs.Digits.{digit, hex_on, hex_value}

-- how many numbers n digits can stand for
abbrev limit : ℕ → ℕ
limit zero = 1
limit (suc n) = 16 * limit n

-- eight digits fit into 32 bits
limit_8 : (i : ℕ) → i ≤ 8 → limit i ≤ 0x1_0000_0000
limit_8 zero h = omega arith
limit_8 (suc zero) h = omega arith
limit_8 (suc (suc zero)) h = omega arith
limit_8 (suc (suc (suc zero))) h = omega arith
limit_8 (suc (suc (suc (suc zero)))) h = omega arith
limit_8 (suc (suc (suc (suc (suc zero))))) h = omega arith
limit_8 (suc (suc (suc (suc (suc (suc zero)))))) h = omega arith
limit_8 (suc (suc (suc (suc (suc (suc (suc zero))))))) h = omega arith
limit_8 (suc (suc (suc (suc (suc (suc (suc (suc zero)))))))) h = omega arith
limit_8 (suc (suc (suc (suc (suc (suc (suc (suc (suc i))))))))) h = absurd (omega arith)

pub small_or_0 : (r : Option ℕ) → IfSome r (λ d. d < 16) → unwrap_or r 0 < 16
small_or_0 None h = omega arith
small_or_0 (Some d) h = h

-- a loop over digits, at i
pub record Read (l : List ℕ) (i v : ℕ) : Type 0 where
  pub same : hex_on v (drop i l) ≡ hex_value l
  pub small : v < limit i

pub read_start : (l : List ℕ) → Read l 0 0
read_start l = record { same = refl; small = omega arith }

module _ {l : List ℕ} {i v : ℕ} (r : Read l i v) where
  pub read_room : length l ≤ 8 → i < length l → v < 0x1000_0000
  read_room few lt = let h : limit (suc i) ≤ 0x1_0000_0000 = limit_8 (suc i) (omega arith) in omega (arith, r.small)

  pub read_next : {d : ℕ} → i < length l → d ≡ unwrap_or (digit (get_or l i 0)) 0 → d < 16 → Read l (i + 1) (v * 16 + d)
  read_next h e small =
      let same : hex_on (v * 16 + unwrap_or (digit (get_or l i 0)) 0) (drop (suc i) l) ≡ hex_value l = rw (drop-cons l i 0 h) at r.same in
      let one : i + 1 ≡ suc i = omega arith in
      rw (one, e) (record { same = same; small = omega (arith, r.small, e) })

  pub read_all : length l ≤ i → v ≡ hex_value l
  read_all h = rw (drop_of_length-le l {i = i} h) at r.same
