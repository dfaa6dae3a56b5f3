-- The registers that a code names.
use Rattle.std.proofs.Common.{◌≡◌, ℕ, Bool, true, false, ◌&&◌, not, List, [], ◌∷◌, ◌++◌, refl, sym, ap, ◌∙◌, cond, eqb, append_assoc, append-nil}
use Rattle.rules.specs.Choice.{if}
use Rattle.rules.specs.Words.{field_d, field_a, field_b}
use Rattle.rules.specs.Registers.{Field, r_d, r_a, r_a_or_0, r_b, register, registers, registers_named, fields_named}
use Rattle.ppc.specs.Codes.{bit, with, fields_of_code}

with_named : (b : Bool) (f : Field) (fs : List Field) (w : ℕ) → registers (with b f fs) w ≡ cond b (register f w) [] ++ registers fs w
unfolding with if
with_named true f fs w = refl
with_named false f fs w = refl

unless_zero : (b z : Bool) (x : List ℕ) → cond b (if z [] x) [] ≡ cond (b && not z) x []
unfolding if
unless_zero true true x = refl
unless_zero true false x = refl
unless_zero false true x = refl
unless_zero false false x = refl

in_turn : (d a o b : Bool) (w : ℕ) → registers (with d r_d (with a r_a (with o r_a_or_0 (with b r_b [])))) w
    ≡ ((cond d (field_d w ∷ []) [] ++ cond a (field_a w ∷ []) []) ++ cond (o && not (eqb (field_a w) 0)) (field_a w ∷ []) []) ++ cond b (field_b w ∷ []) []
in_turn d a o b w = simp (with_named, unless_zero, append_assoc, append-nil) refl

-- each field's register in turn
pub named : (c w : ℕ) → fields_of_code c ≡ fields_named w
    → ((cond (bit 0 c) (field_d w ∷ []) [] ++ cond (bit 1 c) (field_a w ∷ []) []) ++ cond (bit 2 c && not (eqb (field_a w) 0)) (field_a w ∷ []) []) ++ cond (bit 3 c) (field_b w ∷ []) [] ≡ registers_named w
unfolding registers_named fields_of_code
named c w e = sym (in_turn (bit 0 c) (bit 1 c) (bit 2 c) (bit 3 c) w) ∙ ap (λ fs. registers fs w) e
