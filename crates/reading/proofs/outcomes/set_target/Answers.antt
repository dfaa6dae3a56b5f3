use Prim.Native.Nat.{◌≤◌}
use mathlib.Core.Path.{sym, ◌∙◌}
use lib.ListN.{take}
use native.Mathlib.Omega.{arith}
use Rattle.reading.specs.LastRows.{set_back}
use Rattle.reading.proofs.Ending.{told_now, told_none, word_there, set_is}
use Rattle.reading.proofs.outcomes.set_target.Goals as goal

pub overflow_sub-outcomes : goal.overflow_sub-outcomes
overflow_sub-outcomes c = let a = c.args in let h : 6 ≤ a.count = word_there a.count a.outcomes.now c.requires 4 (sym c.if-last_is.true ∙ c.last_is.ensures) in omega arith

pub bounds-outcomes-count : goal.bounds-outcomes-count
bounds-outcomes-count c = let a = c.args in let h : 6 ≤ a.count = word_there a.count a.outcomes.now c.requires 4 (sym c.if-last_is.true ∙ c.last_is.ensures) in omega arith

pub returns-then-last_is : goal.returns-then-last_is
returns-then-last_is c = let a = c.args in let h : 6 ≤ a.count = word_there a.count a.outcomes.now c.requires 4 (sym c.if-last_is.true ∙ c.last_is.ensures) in told_now a.count a.outcomes.now c.requires 4 (set_back (take a.count a.outcomes.now) 4 a.target) _ (sym c.if-last_is.true ∙ c.last_is.ensures) (set_is a.count a.outcomes.now c.requires 4 a.target (omega arith) (omega arith))

pub returns : goal.returns
returns c = let a = c.args in told_none a.count a.outcomes.now c.requires 4 (set_back (take a.count a.outcomes.now) 4 a.target) (sym c.if-last_is.false ∙ c.last_is.ensures)
