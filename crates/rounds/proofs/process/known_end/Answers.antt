use Rattle.std.proofs.Common.{refl, sym}
use borrow.Author.Tests.{ne_eqb, eq-eqb}
use Rattle.rules.specs.Choice.{if_true, if_false}
use Rattle.rounds.proofs.process.known_end.Goals as goal

pub returns-in-Some : goal.returns-in-Some
returns-in-Some c = rw c.in-Some.is (sym (if_false (ne_eqb _ 0 c.if-end-ne0.true) _ _))

pub returns-in_default : goal.returns-in_default
returns-in_default c = rw c.in-Some.is (sym (if_true (eq-eqb _ 0 c.if-end-ne0.false) _ _))

pub returns-in_default-2 : goal.returns-in_default-2
returns-in_default-2 c = rw c.in_default.is (sym (if_true refl _ _))
