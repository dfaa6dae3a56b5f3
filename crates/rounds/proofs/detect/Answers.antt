use Rattle.std.proofs.Common.{length}
use Rattle.std.proofs.lemmas.Result.{err_from_is_err_and}
use Rattle.rules.specs.Map.{Capacity}
use Rattle.obj_info.specs.Info.{image_of}
use Rattle.rounds.proofs.Whole.{given_table, processed_table, given_fails, rounds_fail, last_rounds_fail, all_ends, told_of}
use Rattle.rounds.proofs.detect.Goals as goal

pub returns-in_err-walk_given : goal.returns-in_err-walk_given
returns-in_err-walk_given c =
    let p = err_from_is_err_and c.from_residual.result c.from_residual.ensures.1 in
    rw (p.1, p.2) (given_fails _ _ _ (c.in_err-walk_given.ensures _ (c.clear.ensures c.args.lists.now)))

pub process_functions-requires : goal.process_functions-requires
process_functions-requires c =
    let g = c.in_ok-walk_given.ensures _ (c.clear.ensures c.args.lists.now) in
    record { ready = record { cap = _; entries = g.entries; holds = g.holds; table = given_table c.args.obj.now _ _ _ g } }

pub returns-in_err-process_functions : goal.returns-in_err-process_functions
returns-in_err-process_functions c =
    let p = err_from_is_err_and c.from_residual-in_err-process_functions.result c.from_residual-in_err-process_functions.ensures.1 in
    let g = c.in_ok-walk_given.ensures _ (c.clear.ensures c.args.lists.now) in
    let t = given_table c.args.obj.now _ _ _ g in
    rw (p.1, p.2) (rounds_fail _ _ g.entries g.is _ (c.in_err-process_functions.ensures _ g.entries g.holds t))

pub last_rounds-requires : goal.last_rounds-requires
last_rounds-requires c =
    let g = c.in_ok-walk_given.ensures _ (c.clear.ensures c.args.lists.now) in
    let t = given_table c.args.obj.now _ _ _ g in
    let f = c.in_ok-process_functions.ensures _ g.entries g.holds t in
    record { ready = record { cap = _; entries = f.entries; holds = f.holds; table = processed_table c.args.obj.now _ _ _ _ t f } }

pub returns-in_err-last_rounds : goal.returns-in_err-last_rounds
returns-in_err-last_rounds c =
    let p = err_from_is_err_and c.from_residual-in_err-last_rounds.result c.from_residual-in_err-last_rounds.ensures.1 in
    let g = c.in_ok-walk_given.ensures _ (c.clear.ensures c.args.lists.now) in
    let t = given_table c.args.obj.now _ _ _ g in
    let f = c.in_ok-process_functions.ensures _ g.entries g.holds t in
    let u = processed_table c.args.obj.now _ _ _ _ t f in
    rw (p.1, p.2) (last_rounds_fail _ _ g.entries g.is f.entries f.is _ (c.in_err-last_rounds.ensures _ f.entries f.holds u))

pub returns : goal.returns
returns c =
    let g = c.in_ok-walk_given.ensures _ (c.clear.ensures c.args.lists.now) in
    let t = given_table c.args.obj.now _ _ _ g in
    let f = c.in_ok-process_functions.ensures _ g.entries g.holds t in
    let u = processed_table c.args.obj.now _ _ _ _ t f in
    let l = c.in_ok-last_rounds.ensures _ f.entries f.holds u in
    let cap : Capacity = record { entries = c.args.room; numbers = length c.args.lists.now } in
    rw (all_ends (image_of c.args.obj.now) cap g.entries g.is f.entries f.is l.entries l.is) (told_of cap _ _ _ l.entries _ (c.all_finalized.ensures (image_of c.args.obj.now) cap c.last_rounds.new.lists l.entries l.holds) l.holds)
