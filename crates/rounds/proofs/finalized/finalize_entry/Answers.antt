use Rattle.std.proofs.Common.{sym, ◌∙◌}
use Rattle.std.proofs.lemmas.Result.{err_from_is_err_and}
use Rattle.slices.specs.View.{slices_of}
use Rattle.rounds.proofs.Settles.{loaded, entry_none, settle_fails, entry_settled, entry_left}
use Rattle.rounds.proofs.finalized.finalize_entry.Goals as goal

pub returns-then-not-load : goal.returns-then-not-load
returns-then-not-load c = λ cap es before h.
    record { entries = es; is = entry_none _ cap _ es before _ _ _ (c.load.ensures.has cap es h) c.if-not-load.true; holds = h }

pub returns-in_err-settle : goal.returns-in_err-settle
returns-in_err-settle c = λ cap es before h.
    let p = err_from_is_err_and c.from_residual.result c.from_residual.ensures.1 in
    let e = loaded _ _ _ (c.load.ensures.has cap es h) c.if-not-load.false (λ s. c.load.ensures.lists cap es s h) in
    rw (p.1, p.2) (settle_fails _ cap _ es before _ _ _ e _ (c.in_err-settle.ensures cap es h.knows))

pub returns-then-is_empty : goal.returns-then-is_empty
unfolding slices_of
returns-then-is_empty c = λ cap es before h.
    let e = loaded _ _ _ (c.load.ensures.has cap es h) c.if-not-load.false (λ s. c.load.ensures.lists cap es s h) in
    rw (entry_settled _ cap c.args.key es before _ _ _ e _ (c.in_ok-settle.ensures cap es h.knows) (sym c.if-is_empty.true ∙ c.is_empty.ensures)) (c.keep_settled.ensures cap es before h)

pub returns : goal.returns
unfolding slices_of
returns c = λ cap es before h.
    let e = loaded _ _ _ (c.load.ensures.has cap es h) c.if-not-load.false (λ s. c.load.ensures.lists cap es s h) in
    record { entries = es; is = entry_left _ cap _ es before _ _ _ e _ (c.in_ok-settle.ensures cap es h.knows) (sym c.if-is_empty.false ∙ c.is_empty.ensures); holds = h }
