-- One mark or cut in a lent slice of records, of any length: the number, the count, the answer, and every record.
use Rattle.std.specs.Prelude.{◌≡◌, List, ◌++◌, map, Bool, ◌&&◌, ℕ, leb, length, take, drop}
use Rattle.rules.specs.Choice.{if, Answer, ok, fault}
use Rattle.rules.specs.Blocks.{Block as Row, Marked, reaches, cut, mark_in, most_blocks, is_aligned, is_table}
use Rattle.std.specs.Prelude.{Result}
use Rattle.faults.specs.declared.Fault.{Fault}
use Rattle.faults.specs.Outcome.{answer as told}
use Rattle.records_blocks.specs.Sweep.{entry, row}
use Rattle.records_blocks.specs.declared.Block.{Block}
use Rattle.records_blocks.specs.declared.Done.{Done}

-- the record of a block
abbrev pub entry_of : Row → Block
entry_of r = entry r.start r.end

-- the blocks that the first n records hold
abbrev pub rows_of : ℕ → List Block → List Row
rows_of n l = map row (take n l)

-- a block that reaches over a is cut there; no block is opened
unfoldable pub only_cut : ℕ → List Row → List Row
only_cut a bs = if (reaches a bs) (cut a bs) bs

-- 3 where the table or the address breaks a rule, 4 where the table is full, else the table as cut, as `mark_in` says it of a mark
unfoldable pub cut_in : ℕ → ℕ → List Row → Answer Marked
cut_in lent a bs =
    if (is_aligned a && is_table bs)
    (if (leb (length (only_cut a bs)) (most_blocks lent)) (ok (record { blocks = only_cut a bs; new = reaches a bs })) (fault 4)) (fault 3)

-- 3 where the count passes the lent length; else what `rules` says of the first n records
unfoldable pub mark_records : ℕ → ℕ → List Block → Answer Marked
mark_records n a l = if (leb n (length l)) (mark_in (length l) a (rows_of n l)) (fault 3)

-- the same of a cut
unfoldable pub cut_records : ℕ → ℕ → List Block → Answer Marked
cut_records n a l = if (leb n (length l)) (cut_in (length l) a (rows_of n l)) (fault 3)

-- one of the two
abbrev pub change_records : Bool → ℕ → ℕ → List Block → Answer Marked
change_records only n a l = if only (cut_records n a l) (mark_records n a l)

-- the table of the answer over the first records, and the rest as it was; on a fault nothing changes
abbrev pub list_of : List Block → Answer Marked → List Block
list_of l (ok m) = map entry_of m.blocks ++ drop (length m.blocks) l
list_of l (fault k) = l

-- what is said of the answer: how many blocks there are, and yes or no; or its fault
abbrev pub done_of : Answer Marked → Answer Done
done_of (ok m) = ok (record { count = length m.blocks; yes = m.new })
done_of (fault k) = fault k

-- the whole result
pub record IsDone (answer : Answer Marked) (l l' : List Block) (r : Result Done Fault) : Type 0 where
  pub said : told r ≡ done_of answer
  pub list : l' ≡ list_of l answer
