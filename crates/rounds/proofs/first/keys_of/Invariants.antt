use Rattle.std.proofs.Common.{◌≡◌, map, take}
use Rattle.tables.specs.Rows.{key_of}
use Rattle.rounds.proofs.first.keys_of.Given as goal

abbrev pub invariant-loop-entry : goal.invariant-loop-entry
invariant-loop-entry l = l.keys.items ≡ map key_of (take l.entry-index l.entry-items)
