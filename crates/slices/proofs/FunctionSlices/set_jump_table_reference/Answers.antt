use Rattle.std.proofs.Common.{ap, refl, ◌∙◌}
use Rattle.rules.specs.Choice.{limited}
use Rattle.rules.specs.Slices.{own_address, with_jump_table_references, set_jump_table_reference}
use Rattle.tables.specs.Rows.{row, key_of}
use Rattle.slices.specs.View.{table_of}
use Rattle.slices.proofs.Rows.{put_rows, outcome_rows}
use Rattle.slices.proofs.Views.{passed}
use Rattle.slices.specs.View.{slices_of}
use Rattle.slices.proofs.FunctionSlices.set_jump_table_reference.Goals as goal

pub returns : goal.returns
unfolding slices_of set_jump_table_reference
returns c =
    passed (with_jump_table_references (slices_of c.args.self.now)) _ _ c.insert.result
    (outcome_rows table_of 256 _ _ c.insert.result c.insert.ensures ∙ ap (limited 256) (put_rows table_of key_of own_address (λ _. refl) (row c.args.addr c.args.size) c.args.self.now.jump_table_references))
