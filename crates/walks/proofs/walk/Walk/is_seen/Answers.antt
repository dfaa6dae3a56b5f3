use Rattle.std.proofs.Common.{◌∙◌}
use Rattle.rules.specs.Step.{seen}
use Rattle.worklist.specs.Bits.{bit}
use Rattle.walks.proofs.Options.{holds_there, holds_not}
use Rattle.walks.proofs.walk.Walk.is_seen.Goals as goal

pub returns-in-Some : goal.returns-in-Some
unfolding seen
returns-in-Some c = c.contains.ensures ∙ holds_there _ _ _ (bit c.args.self.now.visited) c.in-Some.ensures.value

pub returns-in-None : goal.returns-in-None
unfolding seen
returns-in-None c = holds_not _ _ (bit c.args.self.now.visited) c.in-None.ensures.value
