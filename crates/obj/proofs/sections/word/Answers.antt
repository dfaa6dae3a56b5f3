use mathlib.Core.Path.{◌∙◌}
use native.Mathlib.Omega.{arith}
use Rattle.obj.proofs.Words.{word_below, word_above, word_here}
use Rattle.obj.proofs.sections.word.Goals as goal

-- `obj::sections::word` is `word` of `rules`. Assumes nothing.
pub returns-in-Some : goal.returns-in-Some
returns-in-Some c = λ l e h p. let some = c.in-Some.ensures in c.wide.ensures.0 ∙ word_here _ _ c.args.a c.requires l e h p _ _ (omega arith) (omega (arith, some)) (omega (arith, some)) (omega (arith, some)) c.word_at.ensures

pub returns-in_default : goal.returns-in_default
returns-in_default c = λ l e h p. let some = c.in-Some.ensures in word_above _ _ c.args.a c.requires l e h p (omega (arith, some))

pub returns-in_default-2 : goal.returns-in_default-2
returns-in_default-2 c = λ l e h p. let none = c.in_default.ensures in word_below _ _ c.args.a c.requires l e h p (grind (arith, none))
