use Rattle.std.proofs.Common.{ap, ◌∙◌}
use Rattle.rules.specs.Analyze.{pass_behind, run_pass}
use Rattle.rules.specs.Slices.{Slices}
use Rattle.rules.specs.Step.{with_slices}
use Rattle.walks.specs.Around.{around_of}
use Rattle.walks.specs.State.{walk_of}
use Rattle.passes.proofs.apart.pass_behind.Goals as goal

pub returns : goal.returns
unfolding pass_behind
returns c = λ es knows.
    c.run_pass.ensures es knows ∙
    ap (λ (s : Slices). run_pass (around_of c.args.around.now es) c.args.block.value (with_slices (walk_of c.args.walk.now) s)) c.discard_possible_block.ensures
