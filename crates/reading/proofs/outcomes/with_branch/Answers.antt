use lib.ListN.{length-set}
use native.Mathlib.Omega.{arith}
use Rattle.reading.proofs.Ending.{first_branch, second_branch, third_branch, back_is, set_is, pair_set}
use Rattle.reading.proofs.outcomes.with_branch.Goals as goal

pub bounds-outcomes-count-then-outcomes-count-eq0-2 : goal.bounds-outcomes-count-then-outcomes-count-eq0-2
bounds-outcomes-count-then-outcomes-count-eq0-2 c = rw length-set (omega arith)

pub returns-then-outcomes-count-eq0 : goal.returns-then-outcomes-count-eq0
returns-then-outcomes-count-eq0 c = let a = c.args in first_branch a.count a.outcomes.now c.requires.1 a.way a.a _ (back_is a.count a.outcomes.now c.requires.1 4 (omega arith) (omega arith)) _ c.if-outcomes-count-eq0.true (pair_set a.count a.outcomes.now c.requires.1 4 3 a.way a.a (omega arith) (omega arith) (omega arith) (omega arith))

pub bounds-outcomes-count-then-outcomes-count-eq0-2-3 : goal.bounds-outcomes-count-then-outcomes-count-eq0-2-3
bounds-outcomes-count-then-outcomes-count-eq0-2-3 c = rw length-set (omega arith)

pub returns-then-outcomes-count-eq0-2 : goal.returns-then-outcomes-count-eq0-2
returns-then-outcomes-count-eq0-2 c = let a = c.args in second_branch a.count a.outcomes.now c.requires.1 a.way a.a _ (back_is a.count a.outcomes.now c.requires.1 4 (omega arith) (omega arith)) c.if-outcomes-count-eq0.false _ (back_is a.count a.outcomes.now c.requires.1 2 (omega arith) (omega arith)) _ c.if-outcomes-count-eq0-2.true (pair_set a.count a.outcomes.now c.requires.1 2 1 a.way a.a (omega arith) (omega arith) (omega arith) (omega arith))

pub returns : goal.returns
returns c = let a = c.args in third_branch a.count a.outcomes.now c.requires.1 a.way a.a _ (back_is a.count a.outcomes.now c.requires.1 4 (omega arith) (omega arith)) c.if-outcomes-count-eq0.false _ (back_is a.count a.outcomes.now c.requires.1 2 (omega arith) (omega arith)) _ c.if-outcomes-count-eq0-2.false (set_is a.count a.outcomes.now c.requires.1 2 4 (omega arith) (omega arith))
