use Rattle.std.proofs.Common.{◌∙◌}
use Rattle.rules.specs.Step.{known_end}
use Rattle.walks.proofs.Options.{first_of}
use Rattle.walks.proofs.walk.Walk.known_end.Goals as goal

pub returns : goal.returns
unfolding known_end
returns c = λ es. c.or.ensures ∙ first_of _ _ _ c.args.around.now.end_is_address c.last_end.ensures
