use mathlib.Core.Path.{◌∙◌}
use borrow.Author.Rules.{rules}
use borrow.Author.Tests.{tests}
use Rattle.std.proofs.lemmas.Iterator.{YieldsList-from_slice, YieldsList-from_map}
use Rattle.std.proofs.lemmas.Iterator.Search.{all_from_yields_List}
use Rattle.rules.specs.Check.{is_skip}
use Rattle.obj_image.specs.Lent.{seen}
use Rattle.obj_image.proofs.Chains.{all_rows}
use Rattle.obj_rows.specs.Skips.{range_by, range_of}
use Rattle.obj.proofs.skips.all_skips.Goals as goal

-- `obj::skips::all_skips` is that each row passes. Assumes nothing.
pub returns : goal.returns
returns c =
    all_from_yields_List (λ r. is_skip (seen c.args.sections.now) (range_of r)) _ _ _ c.all.ensures.ran
    (YieldsList-from_map _ range_by (YieldsList-from_slice c.args.skips.now cc) c.map.ensures.closure (λ x r q k. search rules))
    (λ x b q k. search (rules, tests))
    ∙ all_rows (is_skip (seen c.args.sections.now)) range_of range_by c.args.skips.now
