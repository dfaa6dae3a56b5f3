use Rattle.std.proofs.Common.{◌≡◌, ◌-◌, List}
use Rattle.std.specs.Prelude.{unwrap_or}
use Rattle.rules.specs.Known.{Entry}
use Rattle.rules.specs.Analyze.{skip_nops}
use Rattle.walks.specs.Around.{around_of}
use Rattle.passes.proofs.trailing.skip_nops.Given as goal

abbrev pub invariant-loop-at : goal.invariant-loop-at
invariant-loop-at l = (es : List Entry) → skip_nops (around_of l.around es) l.at ≡ skip_nops (around_of l.around es) l.initial.at

abbrev pub decreases-loop-at : goal.decreases-loop-at
decreases-loop-at l = unwrap_or l.around.end 0 - l.at
