use Rattle.std.proofs.Common.{◌≡◌, ◌≤◌, length}
use Rattle.mapping.specs.Answers.{text_room}
use Rattle.replay.proofs.replay.Given as goal

abbrev pub invariant-loop : goal.invariant-loop
invariant-loop g l = (length l.map ≡ 1489000) × (length l.text ≡ 1114112) × (l.count ≤ text_room)
