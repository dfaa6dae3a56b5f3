use Rattle.std.proofs.Common.{sym, ◌∙◌, refl, arith}
use Rattle.reading.proofs.Framing.{not_true}
use Rattle.reading.proofs.Ranges.{ranged}
use Rattle.reading.proofs.TextReading.{line_put, line_none, going_first, going_ends, going_on, going_stops}
use Rattle.reading.proofs.texts.read_image.Goals as goal

pub loop-at-init : goal.loop-at-init
loop-at-init c = going_first _ _ _ _ _ _ _ _

pub put_frame-r-requires : goal.put_frame-r-requires
put_frame-r-requires c = record { ranged = ranged c.in-Some.f _ (sym c.in-Some.is ∙ c.read_frame.ensures); fit = c.loop-at.invariant.kept.fit }

pub overflow_add-at : goal.overflow_add-at
overflow_add-at c = omega (arith, c.line_end-end.ensures.high)

pub loop-at-smaller : goal.loop-at-smaller
loop-at-smaller c = omega (arith, c.line_end-end.ensures.low, c.line_end-end.ensures.high)

pub loop-at-preserved : goal.loop-at-preserved
loop-at-preserved c = going_on _ _ _ _ _ _ _ _ _ _ _ _ _ _ _ _ _ c.loop-at.invariant _ _ _ _ _ _ _ _ _ c.line_end-end.ensures (line_put _ c.in-Some.f _ _ _ _ _ _ _ _ _ _ _ _ _ _ _ _ (sym c.in-Some.is ∙ c.read_frame.ensures) c.put_frame-r.ensures)

pub returns-then-not-r : goal.returns-then-not-r
returns-then-not-r c = going_stops _ _ _ _ _ _ _ _ _ _ _ _ _ _ _ _ _ c.loop-at.invariant _ _ _ _ _ _ _ _ _ c.line_end-end.ensures (line_put _ c.in-Some.f _ _ _ _ _ _ _ _ _ _ _ _ _ _ _ _ (sym c.in-Some.is ∙ c.read_frame.ensures) c.put_frame-r.ensures) (not_true _ c.if-not-r.true)

pub returns-in-None : goal.returns-in-None
returns-in-None c = going_stops _ _ _ _ _ _ _ _ _ _ _ _ _ _ _ _ _ c.loop-at.invariant _ _ _ _ _ _ _ _ _ c.line_end-end.ensures (line_none _ _ _ _ _ _ _ _ _ (sym c.in-None.is ∙ c.read_frame.ensures) c.loop-at.invariant.kept.fit) refl

pub returns : goal.returns
returns c = going_ends _ _ _ _ _ _ _ _ _ _ _ _ _ _ _ _ _ c.loop-at.invariant c.loop-at-test.false
