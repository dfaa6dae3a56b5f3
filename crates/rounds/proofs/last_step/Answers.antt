use Rattle.std.proofs.Common.{true}
use Rattle.std.proofs.lemmas.Result.{err_from_is_err_and}
use Rattle.rounds.proofs.Steps.{last_fails, last_ends, rounds_fail, last_goes}
use Rattle.rounds.proofs.Whole.{finalized_table}
use Rattle.rounds.proofs.last_step.Goals as goal

pub returns-in_err-finalized : goal.returns-in_err-finalized
returns-in_err-finalized c = λ cap es h t.
    let p = err_from_is_err_and c.from_residual.result c.from_residual.ensures.1 in
    rw (p.1, p.2) (last_fails _ cap es true _ (c.in_err-finalized.ensures cap es h))

pub returns-then-not-finalized : goal.returns-then-not-finalized
returns-then-not-finalized c = λ cap es h t.
    let g = c.in_ok-finalized.ensures cap es h in
    record { entries = g.entries; is = last_ends _ cap es true _ _ g.is c.if-not-finalized.true; holds = g.holds }

pub process_functions-requires : goal.process_functions-requires
process_functions-requires c =
    let r = c.requires.ready in
    let g = c.in_ok-finalized.ensures r.cap r.entries r.holds in
    record { ready = record { cap = r.cap; entries = g.entries; holds = g.holds; table = finalized_table c.args.obj.now _ _ _ _ r.table true _ g } }

pub returns-in_err-process_functions : goal.returns-in_err-process_functions
returns-in_err-process_functions c = λ cap es h t.
    let p = err_from_is_err_and c.from_residual-in_err-process_functions.result c.from_residual-in_err-process_functions.ensures.1 in
    let g = c.in_ok-finalized.ensures cap es h in
    let table = finalized_table c.args.obj.now cap _ _ es t true _ g in
    rw (p.1, p.2) (rounds_fail _ cap es true _ _ g.is c.if-not-finalized.false _ (c.in_err-process_functions.ensures cap g.entries g.holds table))

pub returns : goal.returns
returns c = λ cap es h t.
    let g = c.in_ok-finalized.ensures cap es h in
    let table = finalized_table c.args.obj.now cap _ _ es t true _ g in
    let f = c.in_ok-process_functions.ensures cap g.entries g.holds table in
    record { entries = f.entries; is = last_goes _ cap es true _ _ g.is c.if-not-finalized.false _ f.is; holds = f.holds }
