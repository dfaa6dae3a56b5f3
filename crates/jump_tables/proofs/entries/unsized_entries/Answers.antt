use Rattle.std.proofs.Common.{[], ap, ◌∙◌, arith}
use Rattle.std.proofs.lemmas.Result.{err_from_is_err_and}
use Rattle.rules.specs.Choice.{ok, ◌>>=◌}
use Rattle.jump_tables.proofs.Loops.{unsized_goes, unsized_fails, unsized_stops, unsized_came, unsized_done}
use Rattle.jump_tables.proofs.entries.unsized_entries.Goals as goal

pub returns-in_err-take-in-Some : goal.returns-in_err-take-in-Some
unfolding ◌>>=◌
returns-in_err-take-in-Some c =
    let p = err_from_is_err_and c.from_residual.result c.from_residual.ensures.1 in
    rw (p.1, p.2) (unsized_came _ _ c.words_of-word-items.ensures _ _ _ _ (c.loop-word.invariant.same ∙ unsized_fails _ _ [] _ c.from_be_bytes-value.ensures _ _ c.loop-word-test.true _ _ _ c.in-Some.ensures _ c.in_err-take-in-Some.ensures.is))

pub returns-in-None : goal.returns-in-None
unfolding ◌>>=◌
returns-in-None c = ap ok c.read_so_far.ensures ∙ unsized_came _ _ c.words_of-word-items.ensures _ _ _ _ (c.loop-word.invariant.same ∙ unsized_stops _ _ [] _ c.from_be_bytes-value.ensures _ _ c.loop-word-test.true _ _ c.in-None.ensures)

pub loop-word-preserved : goal.loop-word-preserved
loop-word-preserved c = record { same = c.loop-word.invariant.same ∙ unsized_goes _ _ [] _ c.from_be_bytes-value.ensures _ _ c.loop-word-test.true _ _ _ c.in-Some.ensures _ c.in_ok-take-in-Some.ensures.is; room = omega (arith, c.loop-word.invariant.room, c.take.ensures.room) }

pub returns : goal.returns
unfolding ◌>>=◌
returns c = ap ok c.read_so_far-2.ensures ∙ unsized_came _ _ c.words_of-word-items.ensures _ _ _ _ (c.loop-word.invariant.same ∙ unsized_done _ _ c.loop-word-test.false _ _ _ _)
