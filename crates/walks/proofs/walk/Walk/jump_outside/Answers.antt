use Rattle.std.proofs.Common.{ℕ, sym, ap, ◌∙◌, ◌||◌}
use Rattle.std.specs.Prelude.{eqb, not}
use borrow.Author.Tests.{eq-eqb, ne_eqb}
use Rattle.rules.specs.Address.{section_of}
use Rattle.rules.specs.Choice.{if_true, if_false}
use Rattle.rules.specs.Slices.{add_function_reference}
use Rattle.rules.specs.Step.{jump_outside}
use Rattle.slices.specs.View.{slices_of}
use Rattle.walks.proofs.Steps.{on_slices_is, fault_on_slices}
use Rattle.walks.proofs.Options.{found, not_found}
use Rattle.walks.proofs.walk.Walk.jump_outside.Goals as goal

pub returns-in-Some : goal.returns-in-Some
unfolding jump_outside
returns-in-Some c = λ es knows word.
    let f = found _ _ (c.in-Some.ensures es knows) in
    fault_on_slices _ _ 8 (sym (if_false (ne_eqb _ 0 f.1) _ _ ∙ if_true (eq-eqb _ _ (f.0 ∙ c.if-function-around.true)) _ _))

pub returns-in-Some-2 : goal.returns-in-Some-2
unfolding jump_outside
returns-in-Some-2 c = λ es knows word.
    let f = found _ _ (c.in-Some.ensures es knows) in
    on_slices_is _ _ _ _ (c.add_function_reference.ensures ∙ sym (if_false (ne_eqb _ 0 f.1) _ _ ∙ if_false (ne_eqb _ _ (λ q. c.if-function-around.false (sym f.0 ∙ q))) _ _ ∙ ap (λ (k : ℕ). add_function_reference k (slices_of c.args.self.now.slices)) f.0))

pub returns-in-None : goal.returns-in-None
unfolding jump_outside
returns-in-None c = λ es knows word.
    let away = c.leaves.ensures ∙ ap (λ (x : ℕ). not (eqb (section_of c.args.target) (section_of c.args.addr)) || eqb x 0) word in
    on_slices_is _ _ _ _ (c.add_function_reference-in-None.ensures ∙ sym (if_true (eq-eqb _ _ (not_found _ (c.in-None.ensures es knows))) _ _ ∙ if_true (sym away ∙ c.if-leaves.true) _ _))

pub returns-in-None-2 : goal.returns-in-None-2
unfolding jump_outside
returns-in-None-2 c = λ es knows word.
    let away = c.leaves.ensures ∙ ap (λ (x : ℕ). not (eqb (section_of c.args.target) (section_of c.args.addr)) || eqb x 0) word in
    on_slices_is _ _ _ _ (c.add_possible_block.ensures ∙ sym (if_true (eq-eqb _ _ (not_found _ (c.in-None.ensures es knows))) _ _ ∙ if_false (sym away ∙ c.if-leaves.false) _ _))
