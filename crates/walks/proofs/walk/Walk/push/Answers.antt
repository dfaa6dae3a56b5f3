use Rattle.rules.specs.Step.{push}
use Rattle.walks.specs.State.{walk_of}
use Rattle.walks.proofs.Steps.{on_pending_is}
use Rattle.walks.proofs.walk.Walk.push.Goals as goal

pub returns : goal.returns
unfolding push
returns c = on_pending_is _ (walk_of c.args.self.now) c.push.new.self c.push.result c.push.ensures.outcome
