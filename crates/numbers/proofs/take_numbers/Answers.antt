-- The lists from their columns.
use Rattle.std.proofs.Common.{◌≡◌, refl, sym, ap, ◌∙◌, length, map, arith}
use Rattle.std.proofs.lemmas.List.{length-map}
use Rattle.rules.specs.Blocks.{Block, start_of}
use Rattle.rules.specs.Slices.{Table, own_address, count_branches}
use Rattle.rules.specs.OneFunction.{end_of, size_of, way_froms, way_tos}
use Rattle.tables.specs.declared.maps.Row.{Row}
use Rattle.tables.specs.Rows.{row, key_of, value_of}
use Rattle.slices.specs.Blocks.{block_of}
use Rattle.slices.specs.View.{slices_of, table_of}
use Rattle.slices.proofs.Rows.{rising_rows, length_rows}
use Rattle.numbers.specs.declared.Header.{Header}
use Rattle.numbers.proofs.Columns.{in_order, parted, map_through, map_back, froms_are, tos_are, count_froms, count_tos, or_some}
use Rattle.numbers.proofs.take_numbers.Goals as goal

-- rows of a map
of_block : Block → Row
of_block b = row b.start b.end

of_table : Table → Row
of_table t = row t.address t.size

pub returns : goal.returns
unfolding slices_of of_block of_table
returns c s right header numbers =
    let blocks : c.args.header.blocks ≡ length s.blocks = ap (λ (h : Header). h.blocks) header in
    let ways : c.args.header.branches ≡ count_branches s.branches = ap (λ (h : Header). h.branches) header in
    let references : c.args.header.function_references ≡ length s.function_references = ap (λ (h : Header). h.function_references) header in
    let tables : c.args.header.jump_table_references ≡ length s.jump_table_references = ap (λ (h : Header). h.jump_table_references) header in
    let a = parted c.args.header.blocks _ _ _ _ _ (numbers ∙ in_order s) (blocks ∙ sym (length-map s.blocks start_of)) c.split.ensures.first c.split.ensures.rest in
    let b = parted c.args.header.blocks _ _ _ _ _ a.1 (blocks ∙ sym (length-map s.blocks end_of)) c.split-2.ensures.first c.split-2.ensures.rest in
    let d = parted c.args.header.branches _ _ _ _ _ b.1 (ways ∙ sym (count_froms s.branches)) c.split-3.ensures.first c.split-3.ensures.rest in
    let e = parted c.args.header.branches _ _ _ _ _ d.1 (ways ∙ sym (count_tos s.branches)) c.split-4.ensures.first c.split-4.ensures.rest in
    let f = parted c.args.header.function_references _ _ _ _ _ e.1 references c.split-5.ensures.first c.split-5.ensures.rest in
    let g = parted c.args.header.jump_table_references _ _ _ _ _ f.1 (tables ∙ sym (length-map s.jump_table_references own_address)) c.split-6.ensures.first c.split-6.ensures.rest in
    let h = parted c.args.header.jump_table_references _ _ _ _ _ g.1 (tables ∙ sym (length-map s.jump_table_references size_of)) c.split-7.ensures.first c.split-7.ensures.rest in
    let i = c.assign.ensures (map of_block s.blocks) (rising_rows of_block start_of key_of (λ _. refl) s.blocks right.blocks) (omega (arith, length_rows of_block s.blocks, right.few_blocks)) (a.0 ∙ sym (map_through key_of of_block start_of (λ _. refl) s.blocks)) (b.0 ∙ sym (map_through value_of of_block end_of (λ _. refl) s.blocks)) in
    let j = c.assign-2.ensures right.pairs.ways (rw right.pairs.same right.branches) right.pairs.few (d.0 ∙ ap way_froms (sym right.pairs.same) ∙ froms_are right.pairs.ways) (e.0 ∙ ap way_tos (sym right.pairs.same) ∙ tos_are right.pairs.ways) in
    let k = rw f.0 at c.assign-3.ensures in
    let l = c.assign-4.ensures (map of_table s.jump_table_references) (rising_rows of_table own_address key_of (λ _. refl) s.jump_table_references right.tables) (omega (arith, length_rows of_table s.jump_table_references, right.few_tables)) (g.0 ∙ sym (map_through key_of of_table own_address (λ _. refl) s.jump_table_references)) (h.0 ∙ sym (map_through value_of of_table size_of (λ _. refl) s.jump_table_references)) in
    let m = rw h.1 at c.assign-5.ensures in
    rw (i, j, right.pairs.same, k right.references right.few_references, l, m right.possible right.few_possible, header, map_back block_of of_block (λ _. refl) s.blocks, map_back table_of of_table (λ _. refl) s.jump_table_references, or_some s.prologue, or_some s.epilogue) refl
