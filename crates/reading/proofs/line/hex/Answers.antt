use Rattle.std.proofs.Common.{◌≡◌, ◌+◌, ◌-◌, arith}
use Rattle.reading.specs.Frames.{number}
use Rattle.reading.proofs.line.hex.Goals as goal

pub returns : goal.returns
unfolding number
returns c = let e : c.args.from + c.args.count - c.args.from ≡ c.args.count = omega arith in rw e at c.value_of.ensures
