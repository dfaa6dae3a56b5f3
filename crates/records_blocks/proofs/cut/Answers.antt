use Rattle.rules.specs.Choice.{if}
use Rattle.records_blocks.proofs.cut.Goals as goal

pub returns : goal.returns
unfolding if
returns c = c.work.ensures
