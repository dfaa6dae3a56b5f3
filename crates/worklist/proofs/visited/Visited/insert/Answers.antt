use Rattle.std.proofs.Common.{◌≡◌, ◌*◌, ◌/◌, ◌%◌, ◌^◌, ◌<◌, length, refl, ◌∙◌, arith}
use lib.Pow.{shl_exact}
use native.Mathlib.Nat.{one-mul}
use Rattle.worklist.proofs.Bits.{bit_set}
use Rattle.worklist.proofs.visited.Visited.insert.Goals as goal

pub returns-clause-set : goal.returns-clause-set
returns-clause-set c =
    let i = c.args.word in
    let v = c.self.inside.bits in
    let h : i / 32 < length v = omega (arith, c.self.told) in
    let e : 1 * 2 ^ (i % 32) % 2 ^ 32 ≡ 2 ^ (i % 32) = shl_exact 1 (i % 32) 32 (omega arith) (omega arith) ∙ one-mul (2 ^ (i % 32)) in
    rw (e, bit_set v i h, c.self.view_is) refl
