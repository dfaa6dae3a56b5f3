-- As many pairs as ways on.
use Rattle.std.proofs.Common.{sym, ap, ◌∙◌}
use Rattle.rules.specs.Slices.{count_branches}
use Rattle.tables.proofs.Groups.{count_grouped}
use Rattle.tables.proofs.multimap.Ways.len.Goals as goal

pub returns-clause-value : goal.returns-clause-value
returns-clause-value g c = c.len.ensures.value ∙ sym (count_grouped c.self.inside.ways.items) ∙ ap count_branches c.self.view_is
