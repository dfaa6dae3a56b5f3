use Rattle.std.proofs.Common.{sym, ◌∙◌, ◌-◌, []}
use Rattle.rules.specs.Loop.{run_stop}
use Rattle.rules.specs.Analyze.{skip_nops, at_nop, four_on}
use Rattle.rules.proofs.SkipsEnd.{nops_fall, skip_nops_step}
use Rattle.walks.specs.Around.{around_of}
use Rattle.passes.proofs.trailing.skip_nops.Goals as goal

pub loop-at-smaller : goal.loop-at-smaller
loop-at-smaller c = nops_fall (around_of c.args.around.now []) c.loop-at.at (sym (c.at_nop.ensures.is []) ∙ c.loop-at-test.true)

pub loop-at-preserved : goal.loop-at-preserved
loop-at-preserved c = λ es.
    sym (skip_nops_step (around_of c.args.around.now es) c.loop-at.at (sym (c.at_nop.ensures.is es) ∙ c.loop-at-test.true)) ∙ c.loop-at.invariant es

pub returns : goal.returns
unfolding skip_nops
returns c = λ es.
    let e = around_of c.args.around.now es in
    sym (run_stop (at_nop e) (four_on e) (λ a. e.end - a) c.loop-at.at (sym (c.at_nop.ensures.is es) ∙ c.loop-at-test.false)) ∙ c.loop-at.invariant es
