use Rattle.std.proofs.Common.{ap, refl, ◌∙◌}
use Rattle.rules.specs.Choice.{limited}
use Rattle.rules.specs.Blocks.{start_of}
use Rattle.rules.specs.Slices.{with_blocks, set_block}
use Rattle.tables.specs.Rows.{row, key_of}
use Rattle.slices.specs.Blocks.{block_of}
use Rattle.slices.proofs.Rows.{put_rows, outcome_rows}
use Rattle.slices.proofs.Views.{passed}
use Rattle.slices.specs.View.{slices_of}
use Rattle.slices.proofs.FunctionSlices.set_block.Goals as goal

pub returns : goal.returns
unfolding slices_of set_block
returns c =
    passed (with_blocks (slices_of c.args.self.now)) _ _ c.insert.result
    (outcome_rows block_of 256 _ _ c.insert.result c.insert.ensures ∙ ap (limited 256) (put_rows block_of key_of start_of (λ _. refl) (row c.args.start c.args.end) c.args.self.now.blocks))
