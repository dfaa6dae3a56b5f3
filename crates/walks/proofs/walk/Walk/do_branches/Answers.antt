use Rattle.std.proofs.Common.{[], ◌∷◌, refl, sym, ◌∙◌}
use Rattle.std.proofs.lemmas.Result.{err_from_is_err_and}
use Rattle.walks.specs.Branched.{way}
use Rattle.rules.specs.Choice.{if_true, if_false}
use Rattle.walks.proofs.Branching.{first_err, second_err, both_ok}
use Rattle.walks.proofs.walk.Walk.do_branches.Goals as goal

pub returns-in_err-one : goal.returns-in_err-one
returns-in_err-one c = λ es knows.
    let p = err_from_is_err_and c.from_residual.result c.from_residual.ensures.1 in
    rw (p.1, p.2) (first_err _ _ _ _ _ _ (c.in_err-one.ensures es [] knows))

pub returns-in_err-two : goal.returns-in_err-two
returns-in_err-two c = λ es knows.
    let p = err_from_is_err_and c.from_residual-in_err-two.result c.from_residual-in_err-two.ensures.1 in
    rw (p.1, p.2) (second_err _ _ _ _ _ _ _ (c.in_ok-one.ensures es [] knows) _ (c.in_err-two.ensures es (way c.in_ok-one.one) knows))

pub returns-in-Some-Some : goal.returns-in-Some-Some
returns-in-Some-Some c = λ es knows.
    let first = rw c.in-Some-Some.is-0 at (c.in_ok-one.ensures es [] knows) in
    let second = rw c.in-Some-Some.is-1 at (c.in_ok-two.ensures es (c.in-Some-Some.one ∷ []) knows) in
    c.set_branches.ensures ∙ sym (both_ok _ _ _ _ _ _ _ first _ _ second ∙ if_false refl _ _)

pub returns-in-None-None : goal.returns-in-None-None
returns-in-None-None c = λ es knows.
    let first = rw c.in-None-None.is-0 at (c.in_ok-one.ensures es [] knows) in
    let second = rw c.in-None-None.is-1 at (c.in_ok-two.ensures es [] knows) in
    sym (both_ok _ _ _ _ _ _ _ first _ _ second ∙ if_true refl _ _)

pub returns-in-Some-None : goal.returns-in-Some-None
returns-in-Some-None c = λ es knows.
    let first = rw c.in-Some-None.is-0 at (c.in_ok-one.ensures es [] knows) in
    let second = rw c.in-Some-None.is-1 at (c.in_ok-two.ensures es (c.in-Some-None.one ∷ []) knows) in
    c.set_branches-in-Some-None.ensures ∙ sym (both_ok _ _ _ _ _ _ _ first _ _ second ∙ if_false refl _ _)

pub returns-in-None-Some : goal.returns-in-None-Some
returns-in-None-Some c = λ es knows.
    let first = rw c.in-None-Some.is-0 at (c.in_ok-one.ensures es [] knows) in
    let second = rw c.in-None-Some.is-1 at (c.in_ok-two.ensures es [] knows) in
    c.set_branches-in-None-Some.ensures ∙ sym (both_ok _ _ _ _ _ _ _ first _ _ second ∙ if_false refl _ _)
