use Rattle.std.proofs.Common.{sym, ◌∙◌}
use Rattle.rounds.proofs.Given.{point_none, point_walked}
use Rattle.rounds.proofs.first.process_entry_point.Goals as goal

pub returns-in-Some : goal.returns-in-Some
returns-in-Some c = λ cap es h. rw (point_walked _ cap es _ (sym c.in-Some.is ∙ c.entry.ensures)) (c.process_function_at.ensures cap es h)

pub returns-in-None : goal.returns-in-None
returns-in-None c = λ cap es h. record { entries = es; is = point_none _ cap es (sym c.in-None.is ∙ c.entry.ensures); holds = h }
