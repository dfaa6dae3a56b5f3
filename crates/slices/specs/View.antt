-- A function's lists, as the rules have them.
use Rattle.std.specs.Prelude.{List, map}
use Rattle.rules.specs.Slices as rules
use Rattle.tables.specs.declared.maps.Row.{Row}
use Rattle.slices.specs.declared.FunctionSlices.{FunctionSlices}
use Rattle.slices.specs.Some.{or_zero}
use Rattle.slices.specs.Blocks.{blocks_of}

-- a row as a jump table, with its size at its address
abbrev pub table_of : Row → rules.Table
table_of r = record { address = r.key; size = r.value }

abbrev pub tables_of : List Row → List rules.Table
tables_of l = map table_of l

unfoldable pub slices_of : FunctionSlices → rules.Slices
slices_of s =
    rules.slices_of (blocks_of s.blocks) s.branches s.function_references (tables_of s.jump_table_references) s.possible_blocks (or_zero s.prologue) (or_zero s.epilogue)
    s.has_conditional_blr s.has_rfi s.has_r1_load s.finalized
