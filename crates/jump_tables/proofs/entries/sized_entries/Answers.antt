use Rattle.std.proofs.Common.{[], sym, ◌∙◌}
use Rattle.std.proofs.lemmas.Result.{err_from_is_err_and}
use borrow.Author.Tests.{eq-eqb, ne_eqb}
use Rattle.rules.specs.Choice.{if_true, if_false, ◌>>=◌}
use Rattle.jump_tables.proofs.Loops.{sized_goes, sized_fails, sized_came, sized_done}
use Rattle.jump_tables.proofs.entries.sized_entries.Goals as goal

pub returns-in_err-sized_word : goal.returns-in_err-sized_word
unfolding ◌>>=◌
returns-in_err-sized_word c =
    let p = err_from_is_err_and c.from_residual.result c.from_residual.ensures.1 in
    rw (p.1, p.2) (sized_came _ _ c.words_of-word-items.ensures _ _ _ (c.loop-word.invariant ∙ sized_fails _ _ [] _ c.from_be_bytes.ensures _ _ c.loop-word-test.true _ c.in_err-sized_word.ensures))

pub loop-word-preserved : goal.loop-word-preserved
loop-word-preserved c = c.loop-word.invariant ∙ sized_goes _ _ [] _ c.from_be_bytes.ensures _ _ c.loop-word-test.true _ c.in_ok-sized_word.ensures

pub returns-then-size-ne0 : goal.returns-then-size-ne0
unfolding ◌>>=◌
returns-then-size-ne0 c = sym (if_false (ne_eqb _ 0 c.if-size-ne0.true) _ _) ∙ sized_came _ _ c.words_of-word-items.ensures _ _ _ (c.loop-word.invariant ∙ sized_done _ _ c.loop-word-test.false _ _)

pub returns : goal.returns
unfolding ◌>>=◌
returns c = sym (if_true (eq-eqb _ 0 c.if-size-ne0.false) _ _) ∙ sized_came _ _ c.words_of-word-items.ensures _ _ _ (c.loop-word.invariant ∙ sized_done _ _ c.loop-word-test.false _ _)
