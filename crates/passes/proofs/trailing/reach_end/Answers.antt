use Rattle.std.proofs.Common.{List, sym, ◌∙◌}
use Rattle.std.proofs.lemmas.Result.{err_from_is_err_and}
use Rattle.rules.specs.Loop.{loop_stop}
use Rattle.rules.specs.Known.{Entry}
use Rattle.rules.specs.Analyze.{reach_end, reach_step, is_short, passes_left}
use Rattle.rules.proofs.PassesEnd.{reach_again, reach_falls}
use Rattle.jump_tables.proofs.Readings.{chose_none}
use Rattle.walks.specs.Around.{around_of}
use Rattle.walks.specs.State.{walk_of}
use Rattle.passes.proofs.Images.{sound_of, aimed_of}
use Rattle.passes.proofs.Left.{is_left}
use Rattle.passes.proofs.Loops.{goes_on, fails, fewer}
use Rattle.passes.proofs.trailing.reach_end.Goals as goal

pub loop-from-smaller : goal.loop-from-smaller
loop-from-smaller c =
    let a = c.args.around.now in
    let w = walk_of c.loop-from.walk in
    let p = λ (es : List Entry). is_left (around_of a es) w c.in-Some.from (c.in-Some.ensures es) in
    fewer a w _ (λ es. reach_step (around_of a es) w) (λ es knows. c.in_ok-run_pass.ensures es knows ∙ (p es).1)
    (λ es. reach_falls (around_of a es) (sound_of a.obj) (aimed_of a.obj) w (p es).0 tt)

pub loop-from-preserved : goal.loop-from-preserved
loop-from-preserved c = λ es knows.
    let a = c.args.around.now in
    let w = walk_of c.loop-from.walk in
    let e = around_of a es in
    let p = is_left e w c.in-Some.from (c.in-Some.ensures es) in
    goes_on (reach_end e) (reach_step e) _ w (c.loop-from.invariant es knows) (reach_again e (sound_of a.obj) (aimed_of a.obj) w p.0) _ (c.in_ok-run_pass.ensures es knows ∙ p.1)

pub returns-in_err-run_pass : goal.returns-in_err-run_pass
returns-in_err-run_pass c = λ es knows.
    let a = c.args.around.now in
    let w = walk_of c.loop-from.walk in
    let e = around_of a es in
    let p = is_left e w c.in-Some.from (c.in-Some.ensures es) in
    let r = err_from_is_err_and c.from_residual.result c.from_residual.ensures.1 in
    rw (r.1, r.2)
    (fails (reach_end e) (reach_step e) _ w (c.loop-from.invariant es knows) (reach_again e (sound_of a.obj) (aimed_of a.obj) w p.0) _ (c.in_err-run_pass.ensures es knows ∙ p.1))

pub returns : goal.returns
unfolding reach_end
returns c = λ es knows.
    let e = around_of c.args.around.now es in
    let w = walk_of c.loop-from.walk in
    sym (loop_stop (is_short e) (reach_step e) (passes_left e) w (chose_none _ _ (c.in_default.ensures es))) ∙ c.loop-from.invariant es knows
