-- The columns lie one behind the other.
use Rattle.std.proofs.Common.{arith, rules, refl, sym, ap, ◌∙◌, map}
use Rattle.rules.specs.Blocks.{start_of}
use Rattle.rules.specs.Slices.{own_address}
use Rattle.rules.specs.OneFunction.{end_of, size_of, way_froms, way_tos}
use Rattle.tables.specs.Rows.{key_of, value_of}
use Rattle.tables.specs.Groups.{leaves, goes_to}
use Rattle.slices.specs.Blocks.{block_of}
use Rattle.slices.specs.View.{slices_of, table_of}
use Rattle.numbers.proofs.Columns.{room, in_order, map_through, froms_are, tos_are}
use Rattle.numbers.proofs.put_numbers.Goals as goal

pub split_at_mut-starts-requires : goal.split_at_mut-starts-requires
split_at_mut-starts-requires c =
    let n = room c.args.slices.now c.as_slice-blocks.result.now c.as_slice-tables.result.now c.as_slice-ways.result.now c.as_slice-references.result.now c.as_slice-possible.result.now c.args.out.now c.as_slice-blocks.ensures.rows c.as_slice-ways.ensures.ways c.as_slice-references.ensures.items c.as_slice-tables.ensures.rows c.as_slice-possible.ensures.items c.requires.len in
    omega arith

pub split_at_mut-ends-requires : goal.split_at_mut-ends-requires
split_at_mut-ends-requires c =
    let n = room c.args.slices.now c.as_slice-blocks.result.now c.as_slice-tables.result.now c.as_slice-ways.result.now c.as_slice-references.result.now c.as_slice-possible.result.now c.args.out.now c.as_slice-blocks.ensures.rows c.as_slice-ways.ensures.ways c.as_slice-references.ensures.items c.as_slice-tables.ensures.rows c.as_slice-possible.ensures.items c.requires.len in
    omega arith

pub split_at_mut-froms-requires : goal.split_at_mut-froms-requires
split_at_mut-froms-requires c =
    let n = room c.args.slices.now c.as_slice-blocks.result.now c.as_slice-tables.result.now c.as_slice-ways.result.now c.as_slice-references.result.now c.as_slice-possible.result.now c.args.out.now c.as_slice-blocks.ensures.rows c.as_slice-ways.ensures.ways c.as_slice-references.ensures.items c.as_slice-tables.ensures.rows c.as_slice-possible.ensures.items c.requires.len in
    omega arith

pub split_at_mut-tos-requires : goal.split_at_mut-tos-requires
split_at_mut-tos-requires c =
    let n = room c.args.slices.now c.as_slice-blocks.result.now c.as_slice-tables.result.now c.as_slice-ways.result.now c.as_slice-references.result.now c.as_slice-possible.result.now c.args.out.now c.as_slice-blocks.ensures.rows c.as_slice-ways.ensures.ways c.as_slice-references.ensures.items c.as_slice-tables.ensures.rows c.as_slice-possible.ensures.items c.requires.len in
    omega arith

pub split_at_mut-refers-requires : goal.split_at_mut-refers-requires
split_at_mut-refers-requires c =
    let n = room c.args.slices.now c.as_slice-blocks.result.now c.as_slice-tables.result.now c.as_slice-ways.result.now c.as_slice-references.result.now c.as_slice-possible.result.now c.args.out.now c.as_slice-blocks.ensures.rows c.as_slice-ways.ensures.ways c.as_slice-references.ensures.items c.as_slice-tables.ensures.rows c.as_slice-possible.ensures.items c.requires.len in
    omega arith

pub split_at_mut-addresses-requires : goal.split_at_mut-addresses-requires
split_at_mut-addresses-requires c =
    let n = room c.args.slices.now c.as_slice-blocks.result.now c.as_slice-tables.result.now c.as_slice-ways.result.now c.as_slice-references.result.now c.as_slice-possible.result.now c.args.out.now c.as_slice-blocks.ensures.rows c.as_slice-ways.ensures.ways c.as_slice-references.ensures.items c.as_slice-tables.ensures.rows c.as_slice-possible.ensures.items c.requires.len in
    omega arith

pub split_at_mut-sizes-requires : goal.split_at_mut-sizes-requires
split_at_mut-sizes-requires c =
    let n = room c.args.slices.now c.as_slice-blocks.result.now c.as_slice-tables.result.now c.as_slice-ways.result.now c.as_slice-references.result.now c.as_slice-possible.result.now c.args.out.now c.as_slice-blocks.ensures.rows c.as_slice-ways.ensures.ways c.as_slice-references.ensures.items c.as_slice-tables.ensures.rows c.as_slice-possible.ensures.items c.requires.len in
    omega arith

pub copy_from_slice-requires-2 : goal.copy_from_slice-requires-2
copy_from_slice-requires-2 c =
    let n = room c.args.slices.now c.as_slice-blocks.result.now c.as_slice-tables.result.now c.as_slice-ways.result.now c.as_slice-references.result.now c.as_slice-possible.result.now c.args.out.now c.as_slice-blocks.ensures.rows c.as_slice-ways.ensures.ways c.as_slice-references.ensures.items c.as_slice-tables.ensures.rows c.as_slice-possible.ensures.items c.requires.len in
    omega arith

pub returns : goal.returns
unfolding slices_of
returns c =
    let s = c.args.slices.now in
    let starts = c.put_column.ensures key_of (λ x n p. search rules) ∙ ap (map key_of) c.as_slice-blocks.ensures.rows ∙ sym (map_through start_of block_of key_of (λ _. refl) s.blocks) in
    let ends = c.put_column-2.ensures value_of (λ x n p. search rules) ∙ ap (map value_of) c.as_slice-blocks.ensures.rows ∙ sym (map_through end_of block_of value_of (λ _. refl) s.blocks) in
    let froms = c.put_column-3.ensures leaves (λ x n p. search rules) ∙ sym (froms_are c.as_slice-ways.result.now) ∙ ap way_froms c.as_slice-ways.ensures.ways in
    let tos = c.put_column-4.ensures goes_to (λ x n p. search rules) ∙ sym (tos_are c.as_slice-ways.result.now) ∙ ap way_tos c.as_slice-ways.ensures.ways in
    let addresses = c.put_column-5.ensures key_of (λ x n p. search rules) ∙ ap (map key_of) c.as_slice-tables.ensures.rows ∙ sym (map_through own_address table_of key_of (λ _. refl) s.jump_table_references) in
    let sizes = c.put_column-6.ensures value_of (λ x n p. search rules) ∙ ap (map value_of) c.as_slice-tables.ensures.rows ∙ sym (map_through size_of table_of value_of (λ _. refl) s.jump_table_references) in
    let references = c.copy_from_slice.ensures ∙ c.as_slice-references.ensures.items in
    let possible = c.copy_from_slice-2.ensures ∙ c.as_slice-possible.ensures.items in
    rw (in_order, starts, ends, froms, tos, references, addresses, sizes, possible) refl
