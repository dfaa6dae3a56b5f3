use Rattle.std.proofs.Common.{sym, ap, ◌∙◌}
use Rattle.std.specs.Prelude.{ltb}
use Rattle.walks.proofs.Options.{or_first, or_second, unwrapped_zero, zeroed}
use Rattle.walks.proofs.walk.Walk.is_below_end.Goals as goal

pub returns-then-is_below : goal.returns-then-is_below
returns-then-is_below c = λ es.
    let first = c.is_below.ensures ∙ ap (ltb c.args.target) (unwrapped_zero c.args.around.now.end) in
    first ∙ or_first _ _ (sym first ∙ c.if-is_below.true)

pub returns-else-is_below : goal.returns-else-is_below
returns-else-is_below c = λ es.
    let first = c.is_below.ensures ∙ ap (ltb c.args.target) (unwrapped_zero c.args.around.now.end) in
    c.is_below-else-is_below.ensures ∙ ap (ltb c.args.target) (zeroed _ _ c.last_end.ensures) ∙ or_second _ _ (sym first ∙ c.if-is_below.false)
