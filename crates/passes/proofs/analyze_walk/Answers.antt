use Rattle.std.proofs.Common.{sym, ap, ◌∙◌}
use Rattle.std.proofs.lemmas.Result.{err_from_is_err_and}
use Rattle.rules.specs.Analyze.{analyze_walk, walk_from}
use Rattle.walks.specs.Around.{around_of}
use Rattle.walks.proofs.Steps.{after_ok, after_err}
use Rattle.passes.proofs.analyze_walk.Goals as goal

pub returns-in_err-walk_from : goal.returns-in_err-walk_from
unfolding analyze_walk
returns-in_err-walk_from c = λ es knows.
    let walked = c.in_err-walk_from.ensures es knows ∙ ap (walk_from (around_of c.args.around.now es) c.args.start) c.new_walk.ensures in
    let p = err_from_is_err_and c.from_residual.result c.from_residual.ensures.1 in
    rw (p.1, p.2) (sym (after_err _ walked))

pub returns-in_err-connect : goal.returns-in_err-connect
unfolding analyze_walk
returns-in_err-connect c = λ es knows.
    let walked = c.in_ok-walk_from.ensures es knows ∙ ap (walk_from (around_of c.args.around.now es) c.args.start) c.new_walk.ensures in
    let p = err_from_is_err_and c.from_residual-in_err-connect.result c.from_residual-in_err-connect.ensures.1 in
    rw (p.1, p.2) (sym (after_ok _ walked ∙ after_err _ (c.in_err-connect.ensures es knows)))

pub returns-in_err-reach_end : goal.returns-in_err-reach_end
unfolding analyze_walk
returns-in_err-reach_end c = λ es knows.
    let walked = c.in_ok-walk_from.ensures es knows ∙ ap (walk_from (around_of c.args.around.now es) c.args.start) c.new_walk.ensures in
    let p = err_from_is_err_and c.from_residual-in_err-reach_end.result c.from_residual-in_err-reach_end.ensures.1 in
    rw (p.1, p.2) (sym (after_ok _ walked ∙ after_ok _ (c.in_ok-connect.ensures es knows) ∙ after_err _ (c.in_err-reach_end.ensures es knows)))

pub returns : goal.returns
unfolding analyze_walk
returns c = λ es knows.
    let walked = c.in_ok-walk_from.ensures es knows ∙ ap (walk_from (around_of c.args.around.now es) c.args.start) c.new_walk.ensures in
    c.analyze_ends.ensures (around_of c.args.around.now es) ∙
    sym (after_ok _ walked ∙ after_ok _ (c.in_ok-connect.ensures es knows) ∙ after_ok _ (c.in_ok-reach_end.ensures es knows))
