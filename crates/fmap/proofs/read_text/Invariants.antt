use Rattle.std.proofs.Common.{◌≡◌, ◌-◌, ◌≤◌, length, take}
use Rattle.std.specs.Io.KnownBytes.{Consumes}
use Rattle.fmap.proofs.read_text.Given as goal

-- what was read stands at the front
abbrev pub invariant-loop-count : goal.invariant-loop-count
invariant-loop-count g l =
    (length l.text ≡ length l.initial.text) × (l.count ≤ length l.text) × Consumes (g.R.Read.remaining l.initial.from) (g.R.Read.remaining l.from) (take l.count l.text)

abbrev pub decreases-loop-count : goal.decreases-loop-count
decreases-loop-count g l = length l.text - l.count
