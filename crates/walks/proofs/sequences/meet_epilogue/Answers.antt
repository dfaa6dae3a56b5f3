use Rattle.std.proofs.Common.{sym, ◌∙◌}
use borrow.Author.Tests.{eq-eqb, ne_eqb}
use Rattle.rules.specs.Choice.{if_true, if_false}
use Rattle.rules.specs.Step.{meet_epilogue}
use Rattle.slices.specs.View.{slices_of}
use Rattle.walks.proofs.Options.{found, not_found}
use Rattle.walks.proofs.sequences.meet_epilogue.Goals as goal

pub returns-then-epilogue-addr : goal.returns-then-epilogue-addr
unfolding meet_epilogue slices_of
returns-then-epilogue-addr c =
    let f = found _ _ c.in-Some.ensures in
    sym (if_false (ne_eqb _ 0 f.1) _ _ ∙ if_true (eq-eqb _ _ (f.0 ∙ c.if-epilogue-addr.true)) _ _)

pub returns-else-epilogue-addr : goal.returns-else-epilogue-addr
unfolding meet_epilogue slices_of
returns-else-epilogue-addr c =
    let f = found _ _ c.in-Some.ensures in
    sym (if_false (ne_eqb _ 0 f.1) _ _ ∙ if_false (ne_eqb _ _ (λ q. c.if-epilogue-addr.false (sym f.0 ∙ q))) _ _)

pub returns-in-None : goal.returns-in-None
unfolding meet_epilogue slices_of
returns-in-None c = sym (if_true (eq-eqb _ _ (not_found _ c.in-None.ensures)) _ _)
