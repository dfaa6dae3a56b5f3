use Rattle.std.proofs.Common.{rules, tests, sym, ◌∙◌}
use Rattle.std.proofs.lemmas.Iterator.{YieldsList-from_slice}
use Rattle.std.proofs.lemmas.Iterator.Search.{any_from_yields_List}
use Rattle.rules.specs.Step.{is_known_function}
use Rattle.slices.specs.View.{slices_of}
use Rattle.tables.proofs.Places.{any_is}
use Rattle.walks.specs.Around.{around_of}
use Rattle.walks.proofs.walk.Walk.any_known.Goals as goal

pub returns : goal.returns
returns c = λ es knows.
    any_from_yields_List (is_known_function (around_of c.args.around.now es) (slices_of c.args.self.now.slices)) _ _ _ c.any.ensures.ran (YieldsList-from_slice _ c.iter.ensures.rest) (λ x b q k. search (rules, tests, knows)) ∙ sym (any_is _ _)
