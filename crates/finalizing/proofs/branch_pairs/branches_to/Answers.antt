-- The test of the closure, asked of each way on and the next.
use Rattle.std.proofs.Common.{rules, tests, sym, ◌∙◌}
use Rattle.std.proofs.lemmas.Iterator.{YieldsList-from_slice, YieldsList-from_zip}
use Rattle.std.proofs.lemmas.Iterator.Adapters.{YieldsList-from_skip}
use Rattle.std.proofs.lemmas.Iterator.Search.{any_from_yields_List}
use Rattle.tables.specs.declared.multimap.Way.{Way}
use Rattle.tables.proofs.Places.{any_is}
use Rattle.finalizing.proofs.Pairs.{shared, any_pair}
use Rattle.finalizing.proofs.branch_pairs.branches_to.Goals as goal

pub returns : goal.returns
returns c = λ im.
    let ways = c.args.ways.now in
    any_from_yields_List (λ (p : Way × Way). shared im c.args.key p.0 p.1) c.any.new.self _ _ c.any.ensures.ran (YieldsList-from_zip (YieldsList-from_slice ways cc) (YieldsList-from_skip 1 (YieldsList-from_slice ways cc) cc)) (λ x b q k. search (rules, tests)) ∙
    sym (any_is _ _) ∙
    any_pair im c.args.key ways
