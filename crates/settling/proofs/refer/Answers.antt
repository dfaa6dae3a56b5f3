use Rattle.std.proofs.Common.{ap, ◌∙◌}
use Rattle.rules.specs.Slices.{add_function_reference}
use Rattle.settling.proofs.refer.Goals as goal

pub returns : goal.returns
returns c = c.add_function_reference.ensures ∙ ap (add_function_reference c.args.block) c.discard_possible_block.ensures
