use mathlib.Core.Path.{◌∙◌}
use borrow.Author.Rules.{rules}
use borrow.Author.Tests.{tests}
use Rattle.std.proofs.lemmas.Iterator.{YieldsList-from_slice, YieldsList-from_map}
use Rattle.std.proofs.lemmas.Iterator.Search.{all_from_yields_List}
use Rattle.rules.specs.Check as rules
use Rattle.obj_image.specs.Sections.{section_by, row_of}
use Rattle.obj_image.proofs.Chains.{all_rows}
use Rattle.obj_image.proofs.sections.is_apart.Goals as goal

-- `obj::sections::is_apart` is that a section is apart from each row. Assumes nothing.
pub returns : goal.returns
returns c =
    all_from_yields_List (λ o. rules.are_apart (row_of c.args.section) (row_of o)) _ _ c.all.result c.all.ensures.ran
    (YieldsList-from_map _ section_by (YieldsList-from_slice c.args.others.now cc) c.map.ensures.closure (λ x r q k. search rules))
    (λ x b q k. search (rules, tests))
    ∙ all_rows (rules.are_apart (row_of c.args.section)) row_of section_by c.args.others.now
