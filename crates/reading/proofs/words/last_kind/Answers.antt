use native.Mathlib.Omega.{arith}
use Rattle.reading.proofs.Ending.{no_section, code_section, other_section, back_is}
use Rattle.reading.proofs.words.last_kind.Goals as goal

pub returns-then-count-lt4 : goal.returns-then-count-lt4
returns-then-count-lt4 c = let a = c.args in no_section a.count a.sections.now c.requires c.if-count-lt4.true

pub returns-then-sections-count-eq1 : goal.returns-then-sections-count-eq1
returns-then-sections-count-eq1 c = let a = c.args in code_section a.count a.sections.now c.requires _ (back_is a.count a.sections.now c.requires 4 (omega arith) c.if-count-lt4.false) c.if-count-lt4.false c.if-sections-count-eq1.true

pub returns : goal.returns
returns c = let a = c.args in other_section a.count a.sections.now c.requires _ (back_is a.count a.sections.now c.requires 4 (omega arith) c.if-count-lt4.false) c.if-count-lt4.false c.if-sections-count-eq1.false
