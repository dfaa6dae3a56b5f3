use Rattle.std.proofs.Common.{ap, ◌∙◌}
use Rattle.rules.specs.Analyze.{analyze}
use Rattle.rules.specs.TailCall.{trial, judge}
use Rattle.slices.specs.View.{slices_of}
use Rattle.walks.specs.Around.{around_of}
use Rattle.tail_calls.proofs.trial.Goals as goal

pub returns : goal.returns
unfolding trial
returns c = λ es knows.
    let e = around_of c.args.around.now es in
    c.judge.ensures e ∙ ap (judge e c.args.addr (slices_of c.args.slices.now)) (c.analyze-found.ensures es knows ∙ ap (analyze e c.args.addr) c.copy_function_references.ensures)
