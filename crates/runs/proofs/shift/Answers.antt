use mathlib.Core.Path.{◌≡◌}
use native.Mathlib.Omega.{arith}
use Rattle.runs.proofs.Laws.{paste_self}
use Rattle.runs.proofs.shift.Goals as goal

pub returns-else-dst-src : goal.returns-else-dst-src
returns-else-dst-src c = let e : c.args.src ≡ c.args.dst = omega arith in paste_self _ _ _ c.args.count e
