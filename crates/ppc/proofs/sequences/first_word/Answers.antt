use Prim.Native.Nat.{ℕ, ◌<◌}
use mathlib.Core.Path.{◌∙◌, ap}
use Rattle.std.specs.List.{slice_range}
use native.Mathlib.Omega.{arith}
use lib.ListN.{length}
use Rattle.ppc.proofs.Scan.{below_section, past_section, in_section}
use Rattle.ppc.proofs.sequences.first_word.Goals as goal

-- `ppc::sequences::first_word`: none outside the section. Assumes nothing.
pub returns-in_err-at-clause-none : goal.returns-in_err-at-clause-none
returns-in_err-at-clause-none c = rw c.from_residual.ensures (below_section _ _ _ c.in_err-at.ensures)

pub returns-in_err-get-clause-none : goal.returns-in_err-get-clause-none
returns-in_err-get-clause-none c = rw c.from_residual-in_err-get.ensures (past_section _ _ _ (omega arith) (grind (arith, c.in_err-get.ensures.lookup)))

pub returns-in_err-word-clause-none : goal.returns-in_err-word-clause-none
returns-in_err-word-clause-none c =
    let e = c.in_ok-get.ensures.lookup in
    let h : length c.in_ok-get.field-0.now < 4 = c.in_err-word.ensures.cases in
    rw c.from_residual-in_err-word.ensures (past_section _ _ _ (omega arith) (omega arith))

pub returns-clause-some : goal.returns-clause-some
returns-clause-some c =
    let at = c.in_ok-at.ensures in
    let from = c.in_ok-get.ensures.lookup.0 in
    let e = c.in_ok-word.ensures.cases in
    let part = from.2 ∙ ap (λ (i : ℕ). slice_range c.args.bytes.now i (length c.args.bytes.now)) at.1 in
    in_section _ _ _ _ _ _ _ (omega arith) part (omega arith) e.0 e.1 c.from_be_bytes.ensures
