use mathlib.Core.Path.{◌∙◌, ap}
use Prim.Native.Nat.{ℕ}
use lib.Dec.{eqb}
use borrow.Author.Rules.{rules}
use borrow.Author.Tests.{tests}
use Rattle.std.proofs.lemmas.Iterator.{YieldsList-from_slice, YieldsList-from_map}
use Rattle.std.proofs.lemmas.Iterator.Consumers.{YieldsList-from_filter, count_from_yields_List}
use Rattle.obj_image.specs.declared.sections.Section.{Section}
use Rattle.obj_image.specs.Sections.{section_by}
use Rattle.obj_image.proofs.Chains.{codes_are}
use Rattle.obj_image.proofs.sections.one_code.Goals as goal

-- `obj::sections::one_code` is `one_code` of `rules`. Assumes nothing.
pub returns : goal.returns
returns c =
    ap (λ (n : ℕ). eqb n 1)
    (count_from_yields_List c.filter.result c.count.result c.count.ensures.ran
    (YieldsList-from_filter _ (λ (s : Section). eqb s.kind 1) (YieldsList-from_map _ section_by (YieldsList-from_slice c.args.sections.now cc) c.map.ensures.closure (λ x r q k. search rules)) c.filter.ensures.closure (λ x r q k. search (rules, tests)))
    ∙ codes_are c.args.sections.now)
