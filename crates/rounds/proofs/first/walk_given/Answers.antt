use Rattle.std.proofs.lemmas.Result.{err_from_is_err_and}
use Rattle.rounds.proofs.Given.{known_keys, first_fails, each_fails, each_walked}
use Rattle.rounds.proofs.first.walk_given.Goals as goal

pub returns-in_err-first_entries : goal.returns-in_err-first_entries
returns-in_err-first_entries c = λ cap h.
    let p = err_from_is_err_and c.from_residual.result c.from_residual.ensures.1 in
    rw (p.1, p.2) (first_fails _ cap _ (c.in_err-first_entries.ensures cap _ h))

pub returns-in_err-process_each : goal.returns-in_err-process_each
returns-in_err-process_each c = λ cap h.
    let p = err_from_is_err_and c.from_residual-in_err-process_each.result c.from_residual-in_err-process_each.ensures.1 in
    let g = c.in_ok-first_entries.ensures cap c.args.lists.now h in
    let e = rw (c.as_slice.ensures.value, c.keys_of-keys.ensures, known_keys _ g.entries g.holds.knows) at (c.in_err-process_each.ensures cap g.entries g.holds) in
    rw (p.1, p.2) (each_fails _ cap _ g.is _ e)

pub returns : goal.returns
returns c = λ cap h.
    let g = c.in_ok-first_entries.ensures cap c.args.lists.now h in
    let t = rw (c.as_slice.ensures.value, c.keys_of-keys.ensures, known_keys _ g.entries g.holds.knows) at (c.in_ok-process_each.ensures cap g.entries g.holds) in
    rw (each_walked _ cap _ g.is _ t.is) (c.process_entry_point.ensures cap t.entries t.holds)
