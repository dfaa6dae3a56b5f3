use Rattle.std.proofs.Common.{sym, ◌∙◌}
use borrow.Author.Tests.{eq-eqb, ne_eqb}
use Rattle.rules.specs.Choice.{if_true, if_false}
use Rattle.rules.specs.Step.{do_illegal, walk_on}
use Rattle.walks.proofs.walk.Walk.do_illegal.Goals as goal
use Rattle.walks.proofs.walk.Walk.do_illegal.Goals.{then-word-eq0, else-word-eq0}

pub returns : goal.returns
unfolding do_illegal walk_on
returns c = λ e word. elim c.if-word-eq0.branch [
  | then-word-eq0 w ↦ rw (w.self-is) (sym (if_true (eq-eqb _ 0 (sym word ∙ w.if-word-eq0.true)) _ _))
  | else-word-eq0 w ↦ rw (w.self-is) (sym (if_false (ne_eqb _ 0 (λ z. w.if-word-eq0.false (word ∙ z))) _ _))
]
