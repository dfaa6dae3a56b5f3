-- A function's lists as they are stored: their numbers, and beside them how many each list has and what is no list.
use Rattle.std.specs.Prelude.{◌≡◌, ◌≤◌, ◌+◌, ◌*◌, ℕ, List, length}
use Rattle.rules.specs.Ordered.{self, Rising}
use Rattle.rules.specs.Blocks.{start_of}
use Rattle.rules.specs.Slices.{Slices, own_address, from_of, count_branches}
use Rattle.tables.specs.Groups.{grouped}
use Rattle.tables.specs.declared.multimap.Way.{Way}
use Rattle.obj_info.specs.Info.{some_nonzero}
use Rattle.numbers.specs.declared.Header.{Header}

abbrev pub header_of : Slices → Header
header_of s =
    record { blocks = length s.blocks; branches = count_branches s.branches; function_references = length s.function_references; jump_table_references = length s.jump_table_references; possible_blocks = length s.possible_blocks; prologue = some_nonzero s.prologue; epilogue = some_nonzero s.epilogue; has_conditional_blr = s.conditional_blr; has_rfi = s.rfi; finalized = s.finalized; has_r1_load = s.r1_load }

-- how many numbers there are
abbrev pub header_len : Header → ℕ
header_len h = 2 * h.blocks + 2 * h.branches + h.function_references + 2 * h.jump_table_references + h.possible_blocks

-- ways on are pairs, at most so many
pub record Pairs (s : Slices) : Type 0 where
  pub ways : List Way
  pub same : grouped ways ≡ s.branches
  pub few : length ways ≤ 1024

-- lists that ascend, within their limits
pub record Right (s : Slices) : Type 0 where
  pub blocks : Rising start_of s.blocks
  pub branches : Rising from_of s.branches
  pub references : Rising self s.function_references
  pub tables : Rising own_address s.jump_table_references
  pub possible : Rising self s.possible_blocks
  pub few_blocks : length s.blocks ≤ 256
  pub pairs : Pairs s
  pub few_references : length s.function_references ≤ 256
  pub few_tables : length s.jump_table_references ≤ 256
  pub few_possible : length s.possible_blocks ≤ 128
