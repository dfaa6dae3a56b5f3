use Rattle.std.proofs.Common.{◌∙◌}
use Rattle.tables.specs.Rows.{key_of}
use Rattle.tables.proofs.Places.{first_from_is, copied_item}
use Rattle.tables.proofs.maps.Map.first_from.Goals as goal

pub returns : goal.returns
returns g c = rw (first_from_is key_of, ← c.rank.ensures.value, ← c.self.view_is, ← c.deref.ensures.0) (c.copied.ensures ∙ copied_item _ _ _ c.get.ensures.lookup)
