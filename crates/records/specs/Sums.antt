-- Sums that take the order into account.
use Rattle.std.specs.Prelude.{ℕ, ◌+◌, ◌*◌, ◌/◌, ◌%◌, List}
use Rattle.std.specs.List.{fold}
use Rattle.records_blocks.specs.declared.Block.{Block}

-- a sum with one more number
unfoldable pub mix : ℕ → ℕ → ℕ
mix sum value = ((sum % 4294967296 * 31 + value / 4294967296) % 4294967296 * 31 + value % 4294967296) % 4294967296

abbrev pub sum_of : List ℕ → ℕ
sum_of numbers = fold mix 0 numbers

abbrev pub sum_of_rows : List Block → ℕ
sum_of_rows blocks = fold (λ sum block. mix (mix sum block.start) block.end) 0 blocks
