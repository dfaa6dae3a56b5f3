-- The test of the closure, asked of each block.
use Rattle.std.proofs.Common.{rules, tests, sym, refl, ◌∙◌, eqb}
use Rattle.std.proofs.lemmas.Iterator.{YieldsList-from_slice}
use Rattle.std.proofs.lemmas.Iterator.Search.{any_from_yields_List}
use Rattle.rules.specs.Blocks.{is_open}
use Rattle.tables.specs.declared.maps.Row.{Row}
use Rattle.tables.proofs.Places.{any_is}
use Rattle.slices.specs.Blocks.{block_of}
use Rattle.slices.proofs.Rows.{any_rows}
use Rattle.slices.proofs.basic_blocks.any_open.Goals as goal

pub returns : goal.returns
returns c =
    any_from_yields_List (λ (r : Row). eqb r.value 0) _ _ _ c.any.ensures.ran (YieldsList-from_slice c.args.blocks.now c.iter.ensures.rest) (λ x b q k. search (rules, tests))
    ∙ sym (any_is (λ (r : Row). eqb r.value 0) c.args.blocks.now)
    ∙ any_rows block_of (λ r. eqb r.value 0) is_open (λ _. refl) c.args.blocks.now
