use Rattle.std.proofs.Common.{List, sym, ◌∙◌}
use Rattle.std.proofs.lemmas.Result.{err_from_is_err_and}
use Rattle.rules.specs.Loop.{loop_stop}
use Rattle.rules.specs.Known.{Entry}
use Rattle.rules.specs.Analyze.{connect, connect_step, is_disconnected, passes_left}
use Rattle.rules.proofs.PassesEnd.{connect_again, connect_falls}
use Rattle.slices.specs.Blocks.{block_of}
use Rattle.walks.specs.Around.{around_of}
use Rattle.walks.specs.State.{walk_of}
use Rattle.passes.proofs.Images.{sound_of, aimed_of}
use Rattle.passes.proofs.Left.{is_apart, none_apart}
use Rattle.passes.proofs.Loops.{goes_on, fails, fewer}
use Rattle.passes.proofs.apart.connect.Goals as goal

pub loop-block-smaller : goal.loop-block-smaller
loop-block-smaller c =
    let a = c.args.around.now in
    let w = walk_of c.loop-block.walk in
    let p = λ (es : List Entry). is_apart (around_of a es) w (block_of c.in-Some.block) c.in-Some.ensures in
    fewer a w _ (λ es. connect_step (around_of a es) w) (λ es knows. c.in_ok-pass_behind.ensures es knows ∙ (p es).1)
    (λ es. connect_falls (around_of a es) (sound_of a.obj) (aimed_of a.obj) w (p es).0 tt)

pub loop-block-preserved : goal.loop-block-preserved
loop-block-preserved c = λ es knows.
    let a = c.args.around.now in
    let w = walk_of c.loop-block.walk in
    let e = around_of a es in
    let p = is_apart e w (block_of c.in-Some.block) c.in-Some.ensures in
    goes_on (connect e) (connect_step e) _ w (c.loop-block.invariant es knows) (connect_again e (sound_of a.obj) (aimed_of a.obj) w p.0) _ (c.in_ok-pass_behind.ensures es knows ∙ p.1)

pub returns-in_err-pass_behind : goal.returns-in_err-pass_behind
returns-in_err-pass_behind c = λ es knows.
    let a = c.args.around.now in
    let w = walk_of c.loop-block.walk in
    let e = around_of a es in
    let p = is_apart e w (block_of c.in-Some.block) c.in-Some.ensures in
    let r = err_from_is_err_and c.from_residual.result c.from_residual.ensures.1 in
    rw (r.1, r.2)
    (fails (connect e) (connect_step e) _ w (c.loop-block.invariant es knows) (connect_again e (sound_of a.obj) (aimed_of a.obj) w p.0) _ (c.in_err-pass_behind.ensures es knows ∙ p.1))

pub returns : goal.returns
unfolding connect
returns c = λ es knows.
    let e = around_of c.args.around.now es in
    let w = walk_of c.loop-block.walk in
    sym (loop_stop (is_disconnected e) (connect_step e) (passes_left e) w (none_apart e w c.in_default.ensures)) ∙ c.loop-block.invariant es knows
