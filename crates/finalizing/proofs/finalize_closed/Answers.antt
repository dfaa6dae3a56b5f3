use Rattle.std.proofs.Common.{sym, ap, ◌∙◌, Bool}
use borrow.Author.Tests.{eq-eqb, ne_eqb}
use Rattle.rules.specs.Choice.{if_true, if_false}
use Rattle.rules.specs.Slices.{with_returns}
use Rattle.rules.specs.Finalize.{finalize_closed, finalize_end}
use Rattle.obj_info.specs.Info.{image_of}
use Rattle.slices.specs.View.{slices_of}
use Rattle.walks.proofs.Options.{found, not_found}
use Rattle.finalizing.proofs.finalize_closed.Goals as goal

pub is_conditional-slices-requires : goal.is_conditional-slices-requires
is_conditional-slices-requires c = sym (found _ _ c.in-Some.ensures).0

pub finalize_end-requires : goal.finalize_end-requires
unfolding slices_of
finalize_end-requires c = sym (found _ _ c.in-Some.ensures).0

pub returns-in-Some : goal.returns-in-Some
unfolding finalize_closed slices_of
returns-in-Some c = λ es knows.
    let s = slices_of c.args.slices.now in
    c.finalize_end.ensures es knows ∙
    ap (λ (b : Bool). finalize_end (image_of c.args.obj.now) es (with_returns s b s.rfi)) c.is_conditional-slices.ensures ∙
    sym (if_false (ne_eqb _ 0 (found _ _ c.in-Some.ensures).1) _ _)

pub returns-in-None : goal.returns-in-None
unfolding finalize_closed
returns-in-None c = λ es knows. sym (if_true (eq-eqb _ 0 (not_found _ c.in-None.ensures)) _ _)
