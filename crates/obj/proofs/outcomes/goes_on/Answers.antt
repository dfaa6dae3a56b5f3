use Rattle.obj.proofs.Told.{goes_on_is}
use Rattle.obj.proofs.outcomes.goes_on.Goals as goal

pub returns : goal.returns
returns c = goes_on_is c.args.outcomes.now c.as_chunks.result.0.now c.as_chunks.ensures.front c.args.word c.requires
