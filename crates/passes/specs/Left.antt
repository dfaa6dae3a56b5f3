-- What the passes of an analysis have still to do.
use Rattle.std.specs.Prelude.{ℕ, Option, Some, None}
use Rattle.rules.specs.Choice.{if}
use Rattle.rules.specs.Blocks.{Block, first_disconnected_block}
use Rattle.rules.specs.Step.{Around, Walk}
use Rattle.rules.specs.Analyze.{is_nowhere, is_short, next_part}
use Rattle.slices.specs.Blocks.{some_closed}

-- the first block that stands apart from the next, if the walk met a function
abbrev pub block_apart : Walk → Option Block
block_apart w = if (is_nowhere w.place) None (some_closed (first_disconnected_block w.slices.blocks))

-- where words are left before the known end
abbrev pub left_out : Around → Walk → Option ℕ
left_out e w = if (is_short e w) (Some (next_part e w)) None
