-- The mask of a field. Assumes nothing.
use Prim.Native.Nat.{ℕ, ◌*◌, ◌%◌, ◌^◌, ◌<◌}
use mathlib.Core.Path.{◌≡◌}
use native.Mathlib.Nat.{one-mul, mod-eq_of_lt}
use lib.Pow.{pow-lt}

-- 1 shifted by n places, within k bits
pub bit_at : (k n : ℕ) → n < k → 1 * 2 ^ n % 2 ^ k ≡ 2 ^ n
bit_at k n h = rw one-mul (mod-eq_of_lt (pow-lt h))
