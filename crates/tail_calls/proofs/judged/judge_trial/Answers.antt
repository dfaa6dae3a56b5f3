use Rattle.std.proofs.Common.{◌≡◌, sym, ◌∙◌, lt-ltb, le-ltb}
use Rattle.rules.specs.Blocks.{first_start}
use Rattle.rules.specs.Choice.{if_true, if_false}
use Rattle.rules.specs.TailCall.{judge_trial}
use Rattle.slices.specs.View.{slices_of}
use Rattle.walks.proofs.Options.{unwrapped_zero}
use Rattle.tail_calls.proofs.judged.judge_trial.Goals as goal

pub returns-then-unwrap_or-addr : goal.returns-then-unwrap_or-addr
unfolding judge_trial
returns-then-unwrap_or-addr c = λ e.
    let first : c.unwrap_or.result ≡ first_start (slices_of c.args.trial.now).blocks = c.unwrap_or.ensures ∙ sym (unwrapped_zero c.first_start.result) ∙ c.first_start.ensures.start in
    sym (if_true (lt-ltb _ _ (rw first at c.if-unwrap_or-addr.true)) _ _)

pub returns : goal.returns
unfolding judge_trial
returns c = λ e.
    let first : c.unwrap_or.result ≡ first_start (slices_of c.args.trial.now).blocks = c.unwrap_or.ensures ∙ sym (unwrapped_zero c.first_start.result) ∙ c.first_start.ensures.start in
    c.judge_others.ensures e ∙ sym (if_false (le-ltb _ _ (rw first at c.if-unwrap_or-addr.false)) _ _)
