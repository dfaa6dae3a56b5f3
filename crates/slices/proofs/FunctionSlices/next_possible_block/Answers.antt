-- The number, unless it is 0.
use Rattle.std.proofs.Common.{Some, None, sym, ◌∙◌}
use Rattle.slices.specs.View.{slices_of}
use Rattle.slices.proofs.Views.{next_is, none_zero, some_value}
use Rattle.slices.proofs.FunctionSlices.next_possible_block.Goals as goal

pub returns-in_err-next-clause-value : goal.returns-in_err-next-clause-value
unfolding slices_of
returns-in_err-next-clause-value c = rw c.from_residual.ensures (none_zero _ (next_is c.args.current c.args.self.now.possible_blocks None (sym c.in_err-next.was ∙ c.first_from.ensures.value)))

pub returns-then-next-eq0-clause-value : goal.returns-then-next-eq0-clause-value
unfolding slices_of
returns-then-next-eq0-clause-value c = none_zero _ (sym c.if-next-eq0.true ∙ next_is c.args.current c.args.self.now.possible_blocks (Some c.in_ok-next.next) (sym c.in_ok-next.was ∙ c.first_from.ensures.value))

pub returns-clause-value : goal.returns-clause-value
unfolding slices_of
returns-clause-value c = some_value _ _ (next_is c.args.current c.args.self.now.possible_blocks (Some c.in_ok-next.next) (sym c.in_ok-next.was ∙ c.first_from.ensures.value)) c.if-next-eq0.false
