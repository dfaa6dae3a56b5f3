-- What is printed of a map.
use Rattle.std.specs.Prelude.{◌≡◌, Bool, ◌&&◌, not, List, ◌++◌, ℕ, ◌+◌, ◌*◌, eqb, length, drop}
use Rattle.rules.specs.Choice.{if}
use Rattle.result_lists.specs.Back.{set_in, part}
use Rattle.printing.specs.Columns as columns
use Rattle.printing.specs.Rows.{numbers_long}
use Rattle.printing.specs.declared.line.Kind.TheVariants.{Block, Way, Reference, Table, SetAside}
use Rattle.printing.specs.declared.row.EntryRow.{EntryRow}
use Rattle.printing.specs.declared.row.Lists.{Lists}

-- a slice begins with a text, of which the length is answered; behind it, it is as it was before
pub record Begun (l before after : List ℕ) (r : ℕ) : Type 0 where
  pub count : r ≡ length l
  pub text : after ≡ l ++ drop r before
  pub size : length after ≡ length before

-- a row is that of a function: analyzed, with an end and lists
abbrev pub of_function : EntryRow → Bool
of_function e = set_in e.flags 1 && not (eqb e.end 0) && set_in e.flags 2

-- the columns among an entry's numbers, and what stands behind these
pub record Cut (e : EntryRow) (l : List ℕ) (s : Lists) : Type 0 where
  pub starts_are : s.block_starts.now ≡ part 0 e.blocks l
  pub ends_are : s.block_ends.now ≡ part e.blocks e.blocks l
  pub froms_are : s.froms.now ≡ part (2 * e.blocks) e.branches l
  pub tos_are : s.tos.now ≡ part (2 * e.blocks + e.branches) e.branches l
  pub references_are : s.function_references.now ≡ part (2 * e.blocks + 2 * e.branches) e.function_references l
  pub addresses_are : s.table_addresses.now ≡ part (2 * e.blocks + 2 * e.branches + e.function_references) e.jump_tables l
  pub sizes_are : s.table_sizes.now ≡ part (2 * e.blocks + 2 * e.branches + e.function_references + e.jump_tables) e.jump_tables l
  pub behind_is : s.behind.now ≡ drop (numbers_long e) l

-- the lines of a function's lists, column by column
abbrev pub listed : Lists → List ℕ
listed s =
    columns.lines Block s.block_starts.now s.block_ends.now ++ columns.lines Way s.froms.now s.tos.now ++
    columns.lines Reference s.function_references.now s.function_references.now ++ columns.lines Table s.table_addresses.now s.table_sizes.now

-- the lines of an entry
unfoldable pub printed_entry : EntryRow → Lists → List ℕ
printed_entry e s = if (of_function e) (columns.function_line e ++ listed s) (columns.line SetAside e.entry 0)
