use Rattle.std.proofs.Common.{refl, ◌∙◌}
use Rattle.rules.specs.Blocks.{start_of}
use Rattle.tables.specs.Rows.{key_of}
use Rattle.slices.specs.Blocks.{block_of}
use Rattle.slices.proofs.Rows.{has_rows}
use Rattle.slices.specs.View.{slices_of}
use Rattle.slices.proofs.FunctionSlices.has_start.Goals as goal

pub returns : goal.returns
unfolding slices_of
returns c = c.contains_key.ensures.value ∙ has_rows block_of key_of start_of (λ _. refl) c.args.addr c.args.self.now.blocks
