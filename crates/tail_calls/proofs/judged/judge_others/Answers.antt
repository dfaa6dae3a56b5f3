use Rattle.std.proofs.Common.{ℕ, sym, ◌∙◌, ◌&&◌, leb, ltb, arith}
use Rattle.slices.specs.View.{slices_of}
use Rattle.walks.proofs.Options.{located, unwrapped_zero}
use Rattle.tail_calls.proofs.Others.{other_is, others_gone, no_others}
use Rattle.tail_calls.proofs.judged.judge_others.Goals as goal

pub returns-then-remove_within : goal.returns-then-remove_within
unfolding slices_of
returns-then-remove_within c = λ e.
    let test = λ (x : ℕ). leb c.saturating_add-second.result x && ltb x c.unwrap_or-end.result in
    let first = c.unwrap_or-first.ensures ∙ sym (unwrapped_zero c.first_start.result) ∙ c.first_start.ensures.start in
    let end = c.unwrap_or-end.ensures ∙ located _ _ c.last_end.ensures in
    others_gone e (slices_of c.args.slices.now) (slices_of c.args.trial.now) test (other_is e (slices_of c.args.trial.now) _ _ _ first end c.saturating_add-second.ensures (omega arith)) c.remove_within.new.self c.remove_within.ensures.rest c.remove_within.result c.remove_within.ensures.some c.if-remove_within.true

pub returns : goal.returns
unfolding slices_of
returns c = λ e.
    let test = λ (x : ℕ). leb c.saturating_add-second.result x && ltb x c.unwrap_or-end.result in
    let first = c.unwrap_or-first.ensures ∙ sym (unwrapped_zero c.first_start.result) ∙ c.first_start.ensures.start in
    let end = c.unwrap_or-end.ensures ∙ located _ _ c.last_end.ensures in
    no_others e (slices_of c.args.slices.now) (slices_of c.args.trial.now) test (other_is e (slices_of c.args.trial.now) _ _ _ first end c.saturating_add-second.ensures (omega arith)) c.remove_within.new.self c.remove_within.ensures.rest c.remove_within.result c.remove_within.ensures.some _ c.if-remove_within.false (c.own_word.ensures e)
