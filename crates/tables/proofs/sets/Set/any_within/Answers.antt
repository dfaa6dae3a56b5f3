-- The test of the closure, asked of each address.
use Rattle.std.proofs.Common.{rules, tests, ◌&&◌, leb}
use Rattle.std.proofs.lemmas.Iterator.{YieldsList-from_slice}
use Rattle.std.proofs.lemmas.Iterator.Search.{any_from_yields_List}
use Rattle.tables.proofs.Places.{any_is}
use Rattle.tables.proofs.sets.Set.any_within.Goals as goal

pub returns : goal.returns
returns g c =
    rw (any_is, ← c.self.view_is, ← c.deref.ensures.0)
    (any_from_yields_List (λ x. leb c.args.low x && leb x c.args.high) _ _ _ c.any.ensures.ran (YieldsList-from_slice _ c.iter.ensures.rest) (λ x b q k. search (rules, tests)))
