use Rattle.replay.proofs.Marking.{next_cut, none_behind}
use Rattle.replay.proofs.answer_ended.Goals as goal

pub loop-end-preserved : goal.loop-end-preserved
loop-end-preserved g c =
    let n = next_cut c.args.text.now c.loop-end.at c.loop-end.invariant.0 c.loop-end.invariant.1 c.in-Some.end c.in-Some.ensures in
    (n.0, n.1, c.answer.ensures.room)

pub returns-clause-rest : goal.returns-clause-rest
returns-clause-rest g c = none_behind c.args.text.now c.loop-end.at c.loop-end.invariant.0 c.loop-end.invariant.1 c.in_default.ensures
