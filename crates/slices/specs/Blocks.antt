-- The rows of a map as basic blocks, from its key up to its value, which is 0 while the block is open.
use Rattle.std.specs.Prelude.{◌≡◌, ℕ, true, false, List, map, Option, Some, None}
use Rattle.rules.specs.Choice.{if}
use Rattle.rules.specs.Blocks.{Block, block, is_open, below, reaches}
use Rattle.tables.specs.declared.maps.Row.{Row}

abbrev pub block_of : Row → Block
block_of r = block r.key r.value

abbrev pub blocks_of : List Row → List Block
blocks_of l = map block_of l

-- a block, unless it is open
abbrev pub some_closed : Block → Option Block
some_closed b = if (is_open b) None (Some b)

-- the block that reaches over an address, if one does
abbrev pub IsReaching : ℕ → List Block → Option Row → Type 0
IsReaching a bs None = reaches a bs ≡ false
IsReaching a bs (Some r) = (reaches a bs ≡ true) × (below a bs ≡ block_of r)
