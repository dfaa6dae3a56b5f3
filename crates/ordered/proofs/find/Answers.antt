use mathlib.Core.Path.{◌∙◌}
use borrow.Author.Tests.{le-ltb}
use Rattle.ordered.proofs.Arrays.{has_part, has_past}
use Rattle.ordered.proofs.find.Goals as goal

pub returns-then-i-count : goal.returns-then-i-count
returns-then-i-count c = record { place = c.rank_in-i.ensures; hit = has_part _ _ _ _ c.requires.0 c.rank_in-i.ensures c.if-i-count.true }

pub returns-else-i-count : goal.returns-else-i-count
returns-else-i-count c =
    record { place = c.rank_in-i.ensures; hit = le-ltb _ _ c.if-i-count.false ∙ has_past _ _ _ _ c.requires.0 c.rank_in-i.ensures c.if-i-count.false }
