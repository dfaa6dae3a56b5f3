use Rattle.std.proofs.Common.{◌∙◌}
use Rattle.rules.specs.Ordered.{self as own}
use Rattle.tables.proofs.Places.{first_from_is, copied_item}
use Rattle.tables.proofs.sets.Set.first_from.Goals as goal

pub returns-clause-value : goal.returns-clause-value
returns-clause-value g c = rw (first_from_is own, ← c.rank.ensures.value, ← c.self.view_is, ← c.deref.ensures.0) (c.copied.ensures ∙ copied_item _ _ _ c.get.ensures.lookup)
