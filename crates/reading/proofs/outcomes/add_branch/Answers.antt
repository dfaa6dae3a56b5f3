use native.Mathlib.Omega.{arith}
use Prim.Native.Nat.{◌≤◌}
use Rattle.reading.specs.LastRows.{with_branch, way_of}
use lib.ListN.{take}
use mathlib.Core.Path.{sym, ◌∙◌}
use Rattle.reading.proofs.Ending.{told_now, told_none, word_there}
use Rattle.reading.proofs.outcomes.add_branch.Goals as goal

pub with_branch-requires : goal.with_branch-requires
with_branch-requires c = let a = c.args in let h : 6 ≤ a.count = word_there a.count a.outcomes.now c.requires.0 6 (sym c.if-last_is.true ∙ c.last_is.ensures) in (h, omega arith)

pub returns-then-last_is : goal.returns-then-last_is
returns-then-last_is c = let a = c.args in told_now a.count a.outcomes.now c.requires.0 6 (with_branch (way_of a.link a.to) a.a (take a.count a.outcomes.now)) _ (sym c.if-last_is.true ∙ c.last_is.ensures) c.with_branch.ensures

pub returns : goal.returns
returns c = let a = c.args in told_none a.count a.outcomes.now c.requires.0 6 (with_branch (way_of a.link a.to) a.a (take a.count a.outcomes.now)) (sym c.if-last_is.false ∙ c.last_is.ensures)
