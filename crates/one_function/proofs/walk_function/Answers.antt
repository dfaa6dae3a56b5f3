use Rattle.std.proofs.Common.{sym, ap, ◌∙◌}
use Rattle.std.proofs.lemmas.Result.{err_from_is_err_and}
use Rattle.rules.specs.Check.{check}
use Rattle.obj_image.specs.Lent.{Lent, given}
use Rattle.obj_info.specs.Info.{some_nonzero}
use Rattle.walks.proofs.Options.{located}
use Rattle.one_function.proofs.Checked.{image_refused, known_refused, bounds_refused, walked}
use Rattle.one_function.proofs.walk_function.Goals as goal

pub returns-in_err-obj : goal.returns-in_err-obj
returns-in_err-obj c =
    let p = err_from_is_err_and c.from_residual.result c.from_residual.ensures.1 in
    rw (p.1, p.2) (image_refused _ _ _ _ _ _ _ c.in_err-obj.ensures.err)

pub returns-in_err-known : goal.returns-in_err-known
returns-in_err-known c =
    let p = err_from_is_err_and c.from_residual-in_err-known.result c.from_residual-in_err-known.ensures.1 in
    let passes = ap (λ (l : Lent). check (given l)) (sym c.in_ok-obj.ensures.ok) ∙ c.in_ok-obj.obj.checked in
    rw (p.1, p.2) (known_refused _ _ _ _ _ _ passes _ c.in_err-known.ensures.err.0 c.in_err-known.ensures.err.1)

pub returns-then-not-are_bounds : goal.returns-then-not-are_bounds
returns-then-not-are_bounds c =
    let passes = ap (λ (l : Lent). check (given l)) (sym c.in_ok-obj.ensures.ok) ∙ c.in_ok-obj.obj.checked in
    bounds_refused _ _ _ _ _ _ passes c.in_ok-known.ensures.told _ (rw c.in_ok-obj.ensures.ok at c.are_bounds.ensures) c.if-not-are_bounds.true

pub invariant_of-around : goal.invariant_of-around
invariant_of-around c = record { end_is_address = c.nonzero.ensures ∙ ap some_nonzero (sym (located _ _ c.nonzero.ensures)) }

pub returns : goal.returns
returns c =
    let passes = ap (λ (l : Lent). check (given l)) (sym c.in_ok-obj.ensures.ok) ∙ c.in_ok-obj.obj.checked in
    let end = located _ _ c.nonzero.ensures in
    walked _ _ _ _ _ _ passes c.in_ok-known.ensures.told _ (rw c.in_ok-obj.ensures.ok at c.are_bounds.ensures) c.if-not-are_bounds.false _ _
    (rw (end, c.in_ok-obj.ensures.ok) at (c.walk.ensures _ c.in_ok-known.ensures.ok))
