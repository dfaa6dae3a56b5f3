use Rattle.std.proofs.Common.{rules, tests, ap, sym, ◌∙◌, ◌&&◌, leb}
use Rattle.std.proofs.lemmas.Iterator.{YieldsList-from_slice}
use Rattle.std.proofs.lemmas.Iterator.Search.{any_from_yields_List}
use Rattle.rules.specs.Choice.{any}
use Rattle.tables.specs.declared.maps.Row.{Row}
use Rattle.tables.proofs.Places.{any_is}
use Rattle.walks.proofs.Entries.{between}
use Rattle.walks.proofs.around.Around.any_between.Goals as goal

pub returns : goal.returns
returns c = λ es knows.
    any_from_yields_List (λ (r : Row). leb c.args.low r.key && leb r.key c.args.high) _ _ _ c.any.ensures.ran (YieldsList-from_slice c.as_slice.result.now c.iter.ensures.rest) (λ x b q k. search (rules, tests)) ∙
    sym (any_is (λ (r : Row). leb c.args.low r.key && leb r.key c.args.high) c.as_slice.result.now) ∙
    ap (any (λ (r : Row). leb c.args.low r.key && leb r.key c.args.high)) c.as_slice.ensures.rows ∙
    between c.args.low c.args.high _ es knows
