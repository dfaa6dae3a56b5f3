use mathlib.Core.Path.{◌∙◌}
use borrow.Author.Rules.{rules}
use borrow.Author.Tests.{tests}
use Rattle.std.proofs.lemmas.Iterator.{YieldsList-from_slice, YieldsList-from_map}
use Rattle.std.proofs.lemmas.Iterator.Search.{all_from_yields_List}
use Rattle.rules.specs.Check.{is_outcome}
use Rattle.obj_image.specs.Lent.{seen}
use Rattle.obj_image.proofs.Chains.{all_rows}
use Rattle.obj_rows.specs.Outcomes.{row_by, row_of}
use Rattle.obj_rows.proofs.outcomes.are_outcomes.Goals as goal

-- `obj::outcomes::are_outcomes` is that each row passes. Assumes nothing.
pub returns : goal.returns
returns c =
    all_from_yields_List (λ r. is_outcome (seen c.args.sections.now) (row_of r)) _ _ _ c.all.ensures.ran
    (YieldsList-from_map _ row_by (YieldsList-from_slice c.args.outcomes.now cc) c.map.ensures.closure (λ x r q k. search rules))
    (λ x b q k. search (rules, tests))
    ∙ all_rows (is_outcome (seen c.args.sections.now)) row_of row_by c.args.outcomes.now
