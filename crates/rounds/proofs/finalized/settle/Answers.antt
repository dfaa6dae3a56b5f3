use Rattle.std.proofs.Common.{◌*◌, sym, ◌∙◌, add-zero}
use Rattle.std.proofs.lemmas.Result.{err_from_is_err_and}
use Rattle.rules.specs.Address.{section_of}
use Rattle.walks.proofs.Options.{located, unwrapped_zero}
use Rattle.rounds.proofs.Stored.{end_kept}
use Rattle.rounds.proofs.finalized.settle.Goals as goal

pub invariant_of-around : goal.invariant_of-around
invariant_of-around c = record { end_is_address = end_kept _ _ c.last_end.ensures }

pub returns-in_err-settle_all : goal.returns-in_err-settle_all
returns-in_err-settle_all c = λ cap es knows.
    let p = err_from_is_err_and c.from_residual.result c.from_residual.ensures.1 in
    let first = c.unwrap_or.ensures ∙ sym (unwrapped_zero c.first_start.result) ∙ c.first_start.ensures.start in
    rw (p.1, p.2)
    (rw (first, located _ _ c.last_end.ensures, c.section_of.ensures, ← add-zero (section_of c.args.key * 0x1_0000_0000)) at (c.in_err-settle_all.ensures.lists es knows))

pub returns : goal.returns
returns c = λ cap es knows.
    let first = c.unwrap_or.ensures ∙ sym (unwrapped_zero c.first_start.result) ∙ c.first_start.ensures.start in
    rw (first, located _ _ c.last_end.ensures, c.section_of.ensures, ← add-zero (section_of c.args.key * 0x1_0000_0000)) at (c.in_ok-settle_all.ensures.lists es knows)
