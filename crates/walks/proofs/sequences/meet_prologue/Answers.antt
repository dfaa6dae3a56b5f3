use Rattle.std.proofs.Common.{sym, ◌∙◌}
use borrow.Author.Tests.{eq-eqb, ne_eqb}
use Rattle.rules.specs.Choice.{if_true, if_false}
use Rattle.rules.specs.Step.{meet_prologue}
use Rattle.slices.specs.View.{slices_of}
use Rattle.walks.proofs.Options.{found, not_found}
use Rattle.walks.proofs.sequences.meet_prologue.Goals as goal

pub returns-in-Some : goal.returns-in-Some
unfolding meet_prologue slices_of
returns-in-Some c =
    let f = found _ _ c.in-Some.ensures in
    c.second_prologue.ensures (slices_of c.args.slices.now) f.0 ∙ sym (if_false (ne_eqb _ 0 f.1) _ _)

pub returns-in-None : goal.returns-in-None
unfolding meet_prologue slices_of
returns-in-None c = sym (if_true (eq-eqb _ _ (not_found _ c.in-None.ensures)) _ _)
