use Rattle.std.proofs.Common.{ap, sym, ◌∙◌}
use Rattle.std.proofs.lemmas.Result.{err_from_is_err_and}
use Rattle.rules.specs.Choice.{ok}
use Rattle.obj_info.specs.Info.{image_of}
use Rattle.slices.specs.View.{slices_of}
use Rattle.walks.specs.Noted.{noted}
use Rattle.walks.proofs.PlainWords.{plain_noted, emptied}
use Rattle.walks.proofs.Steps.{after_ok, after_err}
use Rattle.walks.proofs.sequences.note.Goals as goal

pub returns-then-is_empty : goal.returns-then-is_empty
unfolding slices_of
returns-then-is_empty c = λ w m.
    plain_noted _ _ _ c.requires w (sym c.is_plain.ensures ∙ c.if-is_plain.true) (slices_of c.args.slices.now) (emptied _ _ c.is_empty.ensures c.if-is_empty.true)

pub returns-in_err-check_sequences : goal.returns-in_err-check_sequences
unfolding noted
returns-in_err-check_sequences c = λ w m.
    let p = err_from_is_err_and c.from_residual.result c.from_residual.ensures.1 in
    rw (p.1, p.2) (sym (after_err _ (c.in_err-check_sequences.ensures w m)))

pub returns : goal.returns
unfolding noted
returns c = λ w m. ap ok (c.note_word.ensures (image_of c.args.obj.now) w) ∙ sym (after_ok _ (c.in_ok-check_sequences.ensures w m))
