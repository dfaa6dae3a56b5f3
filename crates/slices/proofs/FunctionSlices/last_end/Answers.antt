-- The number, unless it is 0.
use Rattle.std.proofs.Common.{Some, None, sym, ◌∙◌}
use Rattle.slices.specs.View.{slices_of}
use Rattle.slices.proofs.Views.{last_end_is, none_zero, some_value}
use Rattle.slices.proofs.FunctionSlices.last_end.Goals as goal

pub returns-in_err-last : goal.returns-in_err-last
unfolding slices_of
returns-in_err-last c = rw c.from_residual.ensures (none_zero _ (last_end_is c.args.self.now.blocks None (sym c.in_err-last.was ∙ c.last.ensures)))

pub returns-then-last-eq0 : goal.returns-then-last-eq0
unfolding slices_of
returns-then-last-eq0 c = none_zero _ (sym c.if-last-eq0.true ∙ last_end_is c.args.self.now.blocks (Some c.in_ok-last.last) (sym c.in_ok-last.was ∙ c.last.ensures))

pub returns : goal.returns
unfolding slices_of
returns c = some_value _ _ (last_end_is c.args.self.now.blocks (Some c.in_ok-last.last) (sym c.in_ok-last.was ∙ c.last.ensures)) c.if-last-eq0.false
