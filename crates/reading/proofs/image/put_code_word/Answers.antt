use Rattle.reading.proofs.Framing.{not_true, not_false}
use Rattle.reading.proofs.Imaging.{code_goes, code_full, code_stays}
use Rattle.reading.proofs.image.put_code_word.Goals as goal

pub returns-then-not-q : goal.returns-then-not-q
returns-then-not-q c = let a = c.args in code_stays a.w a.outcome a.mark a.r a.sections.now a.bytes.now a.outcomes.now c.requires.fit.0 c.requires.fit.1 c.requires.fit.2 _ _ _ c.put_word-q.ensures (not_true _ c.if-not-q.true)

pub returns-then-r-le-OUTCOMES : goal.returns-then-r-le-OUTCOMES
returns-then-r-le-OUTCOMES c = let a = c.args in code_goes a.w a.outcome a.mark a.r a.sections.now a.bytes.now a.outcomes.now c.requires.fit.0 c.requires.fit.1 c.requires.fit.2 _ _ _ c.put_word-q.ensures (not_false _ c.if-not-q.false) c.if-r-le-OUTCOMES.true _ _ c.add_row-c.ensures

pub returns-else-r-le-OUTCOMES : goal.returns-else-r-le-OUTCOMES
returns-else-r-le-OUTCOMES c = let a = c.args in code_full a.w a.outcome a.mark a.r a.sections.now a.bytes.now a.outcomes.now c.requires.fit.0 c.requires.fit.1 c.requires.fit.2 _ _ _ c.put_word-q.ensures (not_false _ c.if-not-q.false) c.if-r-le-OUTCOMES.false
