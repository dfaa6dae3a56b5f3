use Rattle.std.proofs.Common.{ℕ, ap, ◌∙◌}
use Rattle.std.specs.Prelude.{Option, unwrap_or}
use Rattle.rules.specs.Ordered.{self as own}
use Rattle.tables.proofs.Places.{or_upper}
use Rattle.execution.proofs.plain.next_address.Goals as goal

pub returns : goal.returns
returns g c = c.unwrap_or.ensures ∙ ap (λ (o : Option ℕ). unwrap_or o c.args.none) c.first_from.ensures.value ∙ or_upper own c.args.from c.args.none c.args.addresses.now
