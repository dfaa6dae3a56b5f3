use Rattle.std.proofs.Common.{sym, ◌∙◌}
use Rattle.rules.specs.Choice.{if_true, if_false}
use Rattle.rules.specs.Finalize.{finalize}
use Rattle.slices.specs.View.{slices_of}
use Rattle.finalizing.proofs.finalize.Goals as goal

pub returns-then-slices : goal.returns-then-slices
unfolding finalize slices_of
returns-then-slices c = λ es knows. sym (if_true c.if-slices.true _ _)

pub returns-then-lacks_prologue : goal.returns-then-lacks_prologue
unfolding finalize slices_of
returns-then-lacks_prologue c = λ es knows.
    sym (if_false c.if-slices.false _ _ ∙ if_true (sym c.lacks_prologue.ensures ∙ c.if-lacks_prologue.true) _ _)

pub returns : goal.returns
unfolding finalize slices_of
returns c = λ es knows.
    c.finalize_closed.ensures es knows ∙ sym (if_false c.if-slices.false _ _ ∙ if_false (sym c.lacks_prologue.ensures ∙ c.if-lacks_prologue.false) _ _)
