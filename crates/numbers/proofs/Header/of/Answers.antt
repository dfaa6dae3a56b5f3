-- The lengths of the lists, which ascend within their limits.
use Rattle.std.proofs.Common.{refl, ap, length, arith}
use Rattle.rules.specs.Blocks.{start_of}
use Rattle.rules.specs.Slices.{own_address}
use Rattle.tables.specs.Rows.{key_of}
use Rattle.tables.proofs.Groups.{count_grouped}
use Rattle.slices.specs.Blocks.{block_of}
use Rattle.slices.specs.View.{slices_of, table_of}
use Rattle.slices.proofs.Rows.{length_rows, rising_rows}
use Rattle.numbers.proofs.Header.of.Goals as goal

pub returns-clause-header : goal.returns-clause-header
unfolding slices_of
returns-clause-header c =
    rw (length_rows block_of c.args.slices.now.blocks, length_rows table_of c.args.slices.now.jump_table_references, ← c.as_slice-blocks.ensures.rows, ← c.as_slice-ways.ensures.ways, count_grouped, ← c.as_slice-references.ensures.items, ← c.as_slice-tables.ensures.rows, ← c.as_slice-possible.ensures.items, c.nonzero.ensures, c.nonzero-2.ensures) refl

pub returns-clause-right : goal.returns-clause-right
unfolding slices_of
returns-clause-right c =
    let s = c.args.slices.now in
    record {
      blocks = rising_rows block_of key_of start_of (λ _. refl) s.blocks (rw c.as_slice-blocks.ensures.rows at c.as_slice-blocks.ensures.rising);
      branches = rw c.as_slice-ways.ensures.ways at c.as_slice-ways.ensures.rising;
      references = rw c.as_slice-references.ensures.items at c.as_slice-references.ensures.rising;
      tables = rising_rows table_of key_of own_address (λ _. refl) s.jump_table_references (rw c.as_slice-tables.ensures.rows at c.as_slice-tables.ensures.rising);
      possible = rw c.as_slice-possible.ensures.items at c.as_slice-possible.ensures.rising;
      few_blocks = omega (arith, length_rows block_of s.blocks, ap length c.as_slice-blocks.ensures.rows, c.as_slice-blocks.ensures.fits);
      pairs = record { ways = c.as_slice-ways.result.now; same = c.as_slice-ways.ensures.ways; few = c.as_slice-ways.ensures.fits };
      few_references = omega (arith, ap length c.as_slice-references.ensures.items, c.as_slice-references.ensures.fits);
      few_tables = omega (arith, length_rows table_of s.jump_table_references, ap length c.as_slice-tables.ensures.rows, c.as_slice-tables.ensures.fits);
      few_possible = omega (arith, ap length c.as_slice-possible.ensures.items, c.as_slice-possible.ensures.fits);
    }
