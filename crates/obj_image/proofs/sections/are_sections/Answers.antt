use mathlib.Core.Path.{◌∙◌}
use borrow.Author.Rules.{rules}
use borrow.Author.Tests.{tests}
use Rattle.std.proofs.lemmas.Iterator.{YieldsList-from_slice, YieldsList-from_map}
use Rattle.std.proofs.lemmas.Iterator.Search.{all_from_yields_List}
use Rattle.obj_image.specs.Sections.{section_by, row_of, section_holds}
use Rattle.obj_image.proofs.Chains.{all_rows}
use Rattle.obj_image.proofs.sections.are_sections.Goals as goal

-- `obj::sections::are_sections` is that each row passes. Assumes nothing.
pub returns : goal.returns
returns c =
    all_from_yields_List (λ s. section_holds (row_of s)) _ _ _ c.all.ensures.ran
    (YieldsList-from_map _ section_by (YieldsList-from_slice c.args.sections.now cc) c.map.ensures.closure (λ x r q k. search rules))
    (λ x b q k. search (rules, tests))
    ∙ all_rows section_holds row_of section_by c.args.sections.now
