use borrow.Author.Rules.{rules}
use borrow.Author.Tests.{tests}
use lib.Dec.{eqb}
use Rattle.std.proofs.lemmas.Iterator.{YieldsList-from_slice, YieldsList-from_map}
use Rattle.std.proofs.lemmas.Iterator.Search.{position_from_yields_List}
use Rattle.obj_image.specs.declared.sections.Section.{Section}
use Rattle.obj.specs.Sections.{section_by}
use Rattle.obj.proofs.CodeSection.{place_is, code_found, code_is}
use Rattle.obj.proofs.sections.code_section.Goals as goal

-- `obj::sections::code_section` is the code section of `rules`. Assumes nothing.
pub returns : goal.returns
returns c =
    let e = position_from_yields_List (λ (s : Section). eqb s.kind 1) _ _ c.position.result c.position.ensures.ran (YieldsList-from_map _ section_by (YieldsList-from_slice c.as_chunks.result.0.now cc) c.map.ensures.closure (λ x r q k. search rules)) (λ x b q k. search (rules, tests)) in
    let i = place_is c.as_chunks.result.0.now c.position.result c.unwrap_or-i.result e c.unwrap_or-i.ensures in
    code_is c.args.sections.now _ (code_found c.args.sections.now c.requires.whole c.as_chunks.result.0.now c.as_chunks.ensures.front c.unwrap_or-i.result i c.part_at-part.result c.part_at-part.ensures)
