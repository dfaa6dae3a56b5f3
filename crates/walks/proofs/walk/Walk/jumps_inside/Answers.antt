use Rattle.std.proofs.Common.{sym, ◌∙◌}
use borrow.Author.Tests.{le-leb, lt-leb}
use Rattle.rules.specs.Step.{jumps_inside}
use Rattle.walks.proofs.Options.{or_first, or_second, and_first, and_second}
use Rattle.walks.proofs.walk.Walk.jumps_inside.Goals as goal

pub returns-then-is_below_end : goal.returns-then-is_below_end
unfolding jumps_inside
returns-then-is_below_end c = λ es.
    c.is_below_end.ensures es ∙ or_first _ _ (sym (c.is_below_end.ensures es) ∙ c.if-is_below_end.true) ∙ and_second _ _ (le-leb _ _ c.if-around-target.true)

pub returns-else-is_below_end : goal.returns-else-is_below_end
unfolding jumps_inside
returns-else-is_below_end c = λ es.
    or_second _ _ (sym (c.is_below_end.ensures es) ∙ c.if-is_below_end.false) ∙ and_second _ _ (le-leb _ _ c.if-around-target.true)

pub returns-else-around-target : goal.returns-else-around-target
unfolding jumps_inside
returns-else-around-target c = λ es. and_first _ _ (lt-leb _ _ c.if-around-target.false)
