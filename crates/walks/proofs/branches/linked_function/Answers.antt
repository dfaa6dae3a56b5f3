use Rattle.std.proofs.Common.{refl, ◌∙◌}
use Rattle.rules.specs.Step.{linked_function}
use Rattle.walks.specs.Around.{around_of}
use Rattle.walks.proofs.Options.{unwrapped}
use Rattle.walks.proofs.branches.linked_function.Goals as goal

pub returns : goal.returns
unfolding linked_function
returns c = λ es. c.unwrap_or.ensures ∙ unwrapped _ _ _ (c.symbol_over.ensures (around_of c.args.around.now es) refl)
